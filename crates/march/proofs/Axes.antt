-- What the set points are computed from, read as whole numbers. Assumes nothing.
use Rattle.std.proofs.Common.{◌≡◌, ℕ, zero, suc, ◌*◌, ◌<◌, ◌≤◌, ℤ, pos, negsuc, ◌+ℤ◌, ◌-ℤ◌, ◌*ℤ◌, nat_abs, sym, refl, ap, ◌∙◌, subst, ap₂, mul-le-mul, arith, w16, w32, SFits, to_z, of_z}
use Rattle.std.proofs.lemmas.Int.{ints, to_z-of_z}
use Rattle.std.specs.Int.{int_div_euclid}
use Rattle.setpoints.proofs.Axes.{axis_in}
use Rattle.setpoints.specs.SetPoint.{on_axis}
use Rattle.space.proofs.Products.{product_abs}
use Rattle.space.specs.FloorDiv.{floor_div}
use Rattle.space.specs.Pt.{InRange}

-- a number that went to its bits and back
abbrev read_16 : ℤ → ℤ
read_16 z = to_z w16 (of_z w16 z)

abbrev read_32 : ℤ → ℤ
read_32 z = to_z w32 (of_z w32 z)

-- where there is more than one set point, the coordinate's rule as it stands
on_axis_is : (n : ℕ) (a b : ℤ) (i : ℕ) → 0 < n → on_axis n a b i ≡ a +ℤ floor_div ((b -ℤ a) *ℤ pos i) n
on_axis_is zero a b i some = absurd (let f : ⊥ = omega arith in f)
on_axis_is (suc m) a b i some = refl

in_16 : (z : ℤ) → InRange z → SFits w16 z
in_16 z h = omega (arith, ints)

in_32 : (z : ℤ) → InRange z → SFits w32 z
in_32 z h = omega (arith, ints)

module _ (a b : ℤ) (n i : ℕ) (fa fb fi : ℤ) (a_in : InRange a) (b_in : InRange b) (few : i < 65536) (is_a : fa ≡ read_16 a) (is_b : fb ≡ read_16 b) (is_i : fi ≡ pos i) where
  difference : read_32 (read_32 fb -ℤ read_32 fa) ≡ b -ℤ a
  difference = omega (arith, ints)

  number : read_32 fi ≡ pos i
  number = omega (arith, ints)

  fits : SFits w32 ((b -ℤ a) *ℤ pos i)
  fits =
      let apart : nat_abs (b -ℤ a) ≤ 16383 = omega (arith, ints) in
      let count : i ≤ 65535 = omega arith in
      small ((b -ℤ a) *ℤ pos i) (subst (λ t. t ≤ 16383 * 65535) (sym (product_abs (b -ℤ a) (pos i))) (mul-le-mul apart count))
    where
      small : (z : ℤ) → nat_abs z ≤ 16383 * 65535 → SFits w32 z
      small z h = omega (arith, ints)

  pub product_fits : SFits w32 (read_32 (read_32 fb -ℤ read_32 fa) *ℤ read_32 fi)
  product_fits = rw (difference, number) fits

  product : read_32 (read_32 (read_32 fb -ℤ read_32 fa) *ℤ read_32 fi) ≡ (b -ℤ a) *ℤ pos i
  product = rw (difference, number) (to_z-of_z w32 ((b -ℤ a) *ℤ pos i) fits)

  module _ (fc fn q : ℤ) (is_c : fc ≡ read_16 a) (some : 0 < n) (wide : n < 65536) (within : i ≤ n) (is_n : fn ≡ pos n) (q_fits : SFits w32 q) (is_q : q ≡ int_div_euclid (read_32 (read_32 (read_32 fb -ℤ read_32 fa) *ℤ read_32 fi)) (read_32 fn)) where
    quotient : read_32 q ≡ floor_div ((b -ℤ a) *ℤ pos i) n
    quotient =
        let last : read_32 fn ≡ pos n = omega (arith, ints) in
        to_z-of_z w32 q q_fits ∙ is_q ∙ ap₂ int_div_euclid product last ∙ floored ((b -ℤ a) *ℤ pos i)
      where
        floored : (z : ℤ) → int_div_euclid z (pos n) ≡ floor_div z n
        floored (pos k) = refl
        floored (negsuc k) = refl

    sum : read_32 fc +ℤ read_32 q ≡ on_axis n a b i
    sum =
        let first : read_32 fc ≡ a = omega (arith, ints) in
        ap₂ ◌+ℤ◌ first quotient ∙ sym (on_axis_is n a b i some)

    inside : InRange (on_axis n a b i)
    inside = axis_in n a b i a_in b_in within

    pub sum_fits : SFits w32 (read_32 fc +ℤ read_32 q)
    sum_fits = rw sum (in_32 (on_axis n a b i) inside)

    wide_sum : read_32 (read_32 fc +ℤ read_32 q) ≡ on_axis n a b i
    wide_sum = to_z-of_z w32 (read_32 fc +ℤ read_32 q) sum_fits ∙ sum

    pub cast_fits : SFits w16 (read_32 (read_32 fc +ℤ read_32 q))
    cast_fits = rw wide_sum (in_16 (on_axis n a b i) inside)

    value : read_16 (read_32 (read_32 fc +ℤ read_32 q)) ≡ on_axis n a b i
    value = to_z-of_z w16 (read_32 (read_32 fc +ℤ read_32 q)) cast_fits ∙ wide_sum

    pub handed_on : record { value : read_16 (read_32 (read_32 fc +ℤ read_32 q)) ≡ on_axis n a b i; inside : InRange (read_16 (read_32 (read_32 fc +ℤ read_32 q))) }
    handed_on = record { value = value; inside = rw value inside }

-- a coordinate as it is handed on
pub coordinate : (r a b : ℤ) (n m i : ℕ) → SFits w16 r → InRange a → InRange b → r ≡ on_axis n (read_16 a) (read_16 b) i → n ≡ m → read_16 r ≡ on_axis m a b i
coordinate r a b n m i fits a_in b_in is same =
    let back : (z : ℤ) → InRange z → read_16 z ≡ z = λ z h. to_z-of_z w16 z (in_16 z h) in
    to_z-of_z w16 r fits ∙ is ∙ ap₂ (λ x y. on_axis n x y i) (back a a_in) (back b b_in) ∙ ap (λ k. on_axis k a b i) same
