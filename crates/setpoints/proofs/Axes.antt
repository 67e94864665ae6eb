-- One coordinate of the set points. Assumes nothing.
use Rattle.std.proofs.Common.{◌≡◌, ℕ, zero, suc, ◌+◌, ◌*◌, ◌/◌, ◌<◌, ◌≤◌, ℤ, pos, negsuc, ◌+ℤ◌, ◌-ℤ◌, ◌*ℤ◌, neg_ℤ, nat_abs, ◌≤ℤ◌, refl, ap, ◌∙◌, mul-le-mul_right, suc-mul, mul_comm, div-lt_iff_lt-mul, mul-le-mul_left, mul-zero, mul-div_cancel, arith}
use native.Mathlib.Nat.{zero-div}
use Rattle.std.proofs.lemmas.Int.{ints}
use Rattle.space.specs.FloorDiv.{floor_div}
use Rattle.space.specs.Pt.{InRange}
use Rattle.space.proofs.FloorDivs.{raised, floor_near}
use Rattle.space.proofs.Products.{product_abs, distributes}
use Rattle.setpoints.specs.SetPoint.{on_axis}

-- ---- quotients between 0 and d

quotient_on : (k m e : ℕ) → 0 < m → k ≤ e * m → k / m ≤ e
quotient_on k m e some few =
    let lt : k / m < suc e = (div-lt_iff_lt-mul {k = m} {x = k} {y = suc e} some).1 (omega (arith, suc-mul e m)) in
    omega arith

quotient_back : (k m e : ℕ) → 0 < m → k ≤ suc e * m → (negsuc e ≤ℤ floor_div (neg_ℤ (pos k)) m) × (floor_div (neg_ℤ (pos k)) m ≤ℤ pos 0)
quotient_back zero m e some few = let z = zero-div m in (omega (arith, ints), omega (arith, ints))
quotient_back (suc k) m e some few =
    let lt : k / m < suc e = (div-lt_iff_lt-mul {k = m} {x = k} {y = suc e} some).1 (omega arith) in
    (omega (arith, ints), omega (arith, ints))

-- d·i / n lies between 0 and d where i is at most n
module _ (a b : ℤ) (m i : ℕ) (a_in : InRange a) (b_in : InRange b) (few : i ≤ suc m) where
  between : (d : ℤ) → d ≡ b -ℤ a → InRange (a +ℤ floor_div (d *ℤ pos i) (suc m))
  between (pos e) is =
      let q = quotient_on (e * i) (suc m) e (omega arith) (mul-le-mul_left e few) in
      (omega (arith, ints), omega (arith, ints))
  between (negsuc e) is =
      let q = quotient_back (suc e * i) (suc m) e (omega arith) (mul-le-mul_left (suc e) few) in
      (low (floor_div (neg_ℤ (pos (suc e * i))) (suc m)) q.0, high (floor_div (neg_ℤ (pos (suc e * i))) (suc m)) q.1)
    where
      low : (f : ℤ) → negsuc e ≤ℤ f → negsuc 8191 ≤ℤ (a +ℤ f)
      low f h = omega (arith, ints)

      high : (f : ℤ) → f ≤ℤ pos 0 → (a +ℤ f) ≤ℤ pos 8191
      high f h = omega (arith, ints)

-- ---- the coordinate

pub axis_first : (n : ℕ) (a b : ℤ) → on_axis n a b 0 ≡ a
axis_first zero a b = refl
axis_first (suc m) a b = from ((b -ℤ a) *ℤ pos 0) (product_abs (b -ℤ a) (pos 0) ∙ mul-zero (nat_abs (b -ℤ a)))
  where
    from : (z : ℤ) → nat_abs z ≡ 0 → a +ℤ floor_div z (suc m) ≡ a
    from (pos k) e = let q = ap (λ t. t / suc m) e ∙ zero-div (suc m) in omega (arith, ints)
    from (negsuc k) e = absurd (let f : ⊥ = omega arith in f)

pub axis_last : (n : ℕ) (a b : ℤ) → nat_abs (b -ℤ a) ≤ n → on_axis n a b n ≡ b
axis_last zero a b h = omega (arith, ints)
axis_last (suc m) a b h = whole (b -ℤ a) refl
  where
    there : (f d : ℤ) → f ≡ d → d ≡ b -ℤ a → a +ℤ f ≡ b
    there f d e is = omega (arith, ints)

    back : (f : ℤ) (e q : ℕ) → f +ℤ pos (suc e) ≡ pos q → q ≡ 0 → f ≡ negsuc e
    back f e q h z = omega (arith, ints)

    whole : (d : ℤ) → d ≡ b -ℤ a → a +ℤ floor_div (d *ℤ pos (suc m)) (suc m) ≡ b
    whole (pos e) is = there _ (pos e) (ap pos (mul-div_cancel e (omega arith))) is
    whole (negsuc e) is =
        let z = neg_ℤ (pos (suc e * suc m)) in
        let none : z +ℤ pos (suc m * suc e) ≡ pos 0 = omega (arith, ints, mul_comm (suc m) (suc e)) in
        there _ (negsuc e) (back (floor_div z (suc m)) e (0 / suc m) (raised z (suc m) (suc e) 0 (omega arith) none) (zero-div (suc m))) is

pub axis_in : (n : ℕ) (a b : ℤ) (i : ℕ) → InRange a → InRange b → i ≤ n → InRange (on_axis n a b i)
axis_in zero a b i a_in b_in few = a_in
axis_in (suc m) a b i a_in b_in few = between a b m i a_in b_in few (b -ℤ a) refl

pub axis_close : (n : ℕ) (a b : ℤ) (i j : ℕ) → nat_abs (b -ℤ a) ≤ n → nat_abs (on_axis n a b i -ℤ on_axis n a b (i + j)) ≤ j
axis_close zero a b i j h = omega (arith, ints)
axis_close (suc m) a b i j h =
    let d = b -ℤ a in
    let z = d *ℤ pos i in
    let w = d *ℤ pos (i + j) in
    let back : nat_abs (pos i -ℤ pos (i + j)) ≡ j = omega (arith, ints) in
    let size : nat_abs (z -ℤ w) ≡ nat_abs d * j = ap nat_abs (distributes d (pos i) (pos (i + j))) ∙ product_abs d (pos i -ℤ pos (i + j)) ∙ ap (λ t. nat_abs d * t) back in
    let few : nat_abs (z -ℤ w) ≤ j * suc m = omega (arith, size, mul-le-mul_right j h, mul_comm j (suc m)) in
    moved (floor_div z (suc m)) (floor_div w (suc m)) (floor_near z w (suc m) j (omega arith) few)
  where
    moved : (f g : ℤ) → nat_abs (f -ℤ g) ≤ j → nat_abs ((a +ℤ f) -ℤ (a +ℤ g)) ≤ j
    moved f g l = omega (arith, ints)
