-- Quotients rounded down. Assumes nothing.
use Rattle.std.proofs.Common.{◌≡◌, ℕ, suc, ◌+◌, ◌*◌, ◌/◌, ◌<◌, ◌≤◌, ℤ, pos, negsuc, ◌+ℤ◌, ◌-ℤ◌, nat_abs, sym, ap, ◌∙◌, le_refl, mod-lt, mul-le-mul, le-div_iff_mul-le, mul-add, div-mul-le_self, arith}
use native.Mathlib.Nat.{add-mul-div_left, add-mul-div_right, div-add-mod, lt_of_mul-lt-mul_left}
use Rattle.std.proofs.lemmas.Int.{ints}
use Rattle.space.specs.FloorDiv.{floor_div}

-- raised by k times the divisor, the quotient rises by k
pub raised : (z : ℤ) (m k n : ℕ) → 0 < m → z +ℤ pos (m * k) ≡ pos n → floor_div z m +ℤ pos k ≡ pos (n / m)
raised (pos a) m k n h e =
    let s : a + m * k ≡ n = omega (arith, ints) in
    ap pos (sym (add-mul-div_left a k h) ∙ ap (λ t. t / m) s)
raised (negsuc a) m k n h e =
    let s : n + suc a ≡ m * k = omega (arith, ints) in
    let t = n / m in
    let q = a / m in
    let low = lt_of_mul-lt-mul_left m {m = t + q} {n = k} (omega (arith, mul-add m t q, div-add-mod n m, div-add-mod a m)) in
    let high = lt_of_mul-lt-mul_left m {m = k} {n = t + q + 2} (omega (arith, mul-add m (t + q) 2, mul-add m t q, div-add-mod n m, div-add-mod a m, mod-lt n h, mod-lt a h)) in
    level q k t (omega arith)
  where
    level : (q k t : ℕ) → k ≡ t + q + 1 → negsuc q +ℤ pos k ≡ pos t
    level q k t g = omega (arith, ints)

-- quotients of naturals that differ by at most r times the divisor
quotient : (n n' m r : ℕ) → 0 < m → n ≤ n' + r * m → n / m ≤ n' / m + r
quotient n n' m r h k =
    let high = (le-div_iff_mul-le {k = m} {x = n / m} {y = n' + r * m} h).1 (omega (arith, div-mul-le_self n m)) in
    omega (arith, add-mul-div_right n' r h)

module _ (z w : ℤ) (m r : ℕ) (h : 0 < m) (near : nat_abs (z -ℤ w) ≤ r * m) where
  pub floor_near : nat_abs (floor_div z m -ℤ floor_div w m) ≤ r
  floor_near =
      let k = nat_abs z + nat_abs w in
      let room : k ≤ m * k = omega (arith, mul-le-mul {n₁ = 1} {m₁ = k} {n₂ = m} {m₂ = k} h (le_refl k)) in
      let n = nat_abs (z +ℤ pos (m * k)) in
      let n' = nat_abs (w +ℤ pos (m * k)) in
      let e = natural z (m * k) (omega arith) in
      let e' = natural w (m * k) (omega arith) in
      let s = sides z w (m * k) n n' (r * m) near e e' in
      levels (floor_div z m) (floor_div w m) k (n / m) (n' / m) r
      (raised z m k n h e)
      (raised w m k n' h e')
      (quotient n n' m r h s.0)
      (quotient n' n m r h s.1)
    where
      natural : (z : ℤ) (k : ℕ) → nat_abs z ≤ k → z +ℤ pos k ≡ pos (nat_abs (z +ℤ pos k))
      natural z k l = omega (arith, ints)

      sides : (z w : ℤ) (k n n' d : ℕ) → nat_abs (z -ℤ w) ≤ d → z +ℤ pos k ≡ pos n → w +ℤ pos k ≡ pos n' → (n ≤ n' + d) × (n' ≤ n + d)
      sides z w k n n' d l e e' = omega (arith, ints)

      levels : (f g : ℤ) (k t u r : ℕ) → f +ℤ pos k ≡ pos t → g +ℤ pos k ≡ pos u → t ≤ u + r → u ≤ t + r → nat_abs (f -ℤ g) ≤ r
      levels f g k t u r e e' a b = omega (arith, ints)
