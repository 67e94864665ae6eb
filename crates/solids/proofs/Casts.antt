-- What the methods compute over bits, read as whole numbers. Assumes nothing.
use Rattle.std.proofs.Common.{◌≡◌, ℕ, ◌+◌, ◌*◌, ◌<◌, ◌≤◌, true, false, ℤ, pos, negsuc, ◌+ℤ◌, ◌-ℤ◌, ◌*ℤ◌, nat_abs, sym, refl, ap, ◌∙◌, ap₂, arith, w16, w32, SFits, to_z, of_z}
use lib.Signed.{le_z}
use Rattle.std.proofs.lemmas.Int.{ints, clamps, to_z-of_z}
use Rattle.std.proofs.lemmas.Bool.{cond-true, cond-false}
use Rattle.std.specs.Int.{int_max, int_div_euclid}
use Rattle.space.specs.FloorDiv.{floor_div}
use Rattle.space.specs.Pt.{InRange}
use Rattle.space.specs.Root.{root}
use Rattle.solids.specs.Block.{excess, greatest, box_distance, positive_square}

-- a number that went to its bits and back
abbrev read_16 : ℤ → ℤ
read_16 z = to_z w16 (of_z w16 z)

abbrev read_32 : ℤ → ℤ
read_32 z = to_z w32 (of_z w32 z)

coordinate : (a : ℤ) → InRange a → read_16 a ≡ a
coordinate a h = omega (arith, ints)

normal : (n : ℤ) → nat_abs n ≤ 4096 → read_16 n ≡ n
normal n h = omega (arith, ints)

pub read_bound : (r : ℤ) → nat_abs r ≤ 65535 → nat_abs (read_32 r) ≤ 65535
read_bound r h = omega (arith, ints)

-- a number of the distances less a radius
pub less_flat : (n k : ℕ) → n ≤ 65535 → k ≤ 65535 → read_32 (to_z w32 n -ℤ to_z w32 k) ≡ pos n -ℤ pos k
less_flat n k h l = omega (arith, ints)

pub less : (r d : ℤ) (k : ℕ) → r ≡ d → nat_abs r ≤ 65535 → k ≤ 65535 → read_32 (read_32 r -ℤ to_z w32 k) ≡ d -ℤ pos k
less r d k e h l = omega (arith, ints)

-- one excess of a block, as it is passed on
module _ (a b e : ℤ) (h : ℕ) (i : InRange a) (j : InRange b) (l : h ≤ 8192) (q : e ≡ excess (read_16 a) (read_16 b) h) where
  excess_small : nat_abs e ≤ 16383
  excess_small = omega (arith, ints)

  pub excess_back : read_32 e ≡ excess a b h
  excess_back =
      let k = excess_small in
      let back : read_32 e ≡ e = omega (arith, ints) in
      back ∙ q ∙ ap₂ (λ s t. excess s t h) (coordinate a i) (coordinate b j)

pub boxed : {x y z a b c : ℤ} → x ≡ a → y ≡ b → z ≡ c → box_distance x y z ≡ box_distance a b c
boxed p q r = λ i. box_distance (p i) (q i) (r i)

-- a product of 16-bit numbers, at 32 bits
wide : (z : ℤ) → SFits w16 z → read_32 (read_16 z) ≡ z
wide z f = omega (arith, ints)

-- a plane's three products, as they are passed and added
pub product_read : (n a r : ℤ) → nat_abs n ≤ 4096 → InRange a → r ≡ read_16 n *ℤ read_16 a → r ≡ n *ℤ a
product_read n a r h i q = q ∙ ap₂ ◌*ℤ◌ (normal n h) (coordinate a i)

module _ (a b c : ℤ) (h : nat_abs a ≤ 33554432) (i : nat_abs b ≤ 33554432) (j : nat_abs c ≤ 33554432) where
  pub three_fit : SFits w32 (read_32 (read_32 a +ℤ read_32 b) +ℤ read_32 c)
  three_fit = omega (arith, ints)

  pub sum_read : (x y z : ℤ) → a ≡ x → b ≡ y → c ≡ z → read_32 (read_32 (read_32 a +ℤ read_32 b) +ℤ read_32 c) ≡ x +ℤ y +ℤ z
  sum_read x y z p q r = omega (arith, ints)

  pub sum_small : nat_abs (read_32 (read_32 (read_32 a +ℤ read_32 b) +ℤ read_32 c)) ≤ 100663296
  sum_small = omega (arith, ints)

-- the quotient of a plane
module _ (r o n : ℤ) (m : ℕ) (e : r ≡ n) (small : nat_abs r ≤ 100663296) (offset : nat_abs o ≤ 16384 * m) (long : m < 65536) where
  numerator : read_32 (read_32 r -ℤ read_32 o) ≡ n -ℤ o
  numerator = omega (arith, ints)

  pub numerator_fits : SFits w32 (read_32 r -ℤ read_32 o)
  numerator_fits = omega (arith, ints)

  pub divided : (q : ℤ) → q ≡ int_div_euclid (read_32 (read_32 r -ℤ read_32 o)) (to_z w32 m) → q ≡ floor_div (n -ℤ o) m
  divided q h =
      let length : to_z w32 m ≡ pos m = omega (arith, ints) in
      h ∙ ap₂ int_div_euclid numerator length ∙ floored (n -ℤ o)
    where
      floored : (z : ℤ) → int_div_euclid z (pos m) ≡ floor_div z m
      floored (pos a) = refl
      floored (negsuc a) = refl

-- the greatest of three excesses
module _ (x y z a t : ℤ) (fx : SFits w32 x) (fy : SFits w32 y) (fz : SFits w32 z) (fa : SFits w32 a) (e : a ≡ int_max (read_32 x) (read_32 y)) (f : t ≡ int_max (read_32 a) (read_32 z)) where
  top : t ≡ greatest x y z
  top =
      let first : a ≡ int_max x y = e ∙ ap₂ int_max (to_z-of_z w32 x fx) (to_z-of_z w32 y fy) in
      f ∙ ap₂ int_max (to_z-of_z w32 a fa ∙ first) (to_z-of_z w32 z fz)

  pub inside_small : nat_abs x ≤ 16383 → nat_abs y ≤ 16383 → nat_abs z ≤ 16383 → nat_abs (read_32 t) ≤ 65535
  inside_small hx hy hz = let k = top in omega (arith, ints, clamps)

  pub inside : SFits w32 t → le_z (read_32 t) (pos 0) ≡ true → read_32 t ≡ box_distance x y z
  unfolding box_distance
  inside ft h =
      let same = to_z-of_z w32 t ft ∙ top in
      same ∙ sym (cond-true (le_z (greatest x y z) (pos 0)) _ _ (ap (λ g. le_z g (pos 0)) (sym same) ∙ h))

  pub outside : (a b c : ℕ) (r : ℤ) → a ≡ positive_square (read_32 x) → b ≡ positive_square (read_32 y) → c ≡ positive_square (read_32 z) → r ≡ pos (root (a + b + c)) → SFits w32 t → SFits w32 r → le_z (read_32 t) (pos 0) ≡ false → read_32 r ≡ box_distance x y z
  unfolding box_distance
  outside a b c r p q s d ft fr h =
      let same = to_z-of_z w32 t ft ∙ top in
      let p' : a ≡ positive_square x = p ∙ ap positive_square (to_z-of_z w32 x fx) in
      let q' : b ≡ positive_square y = q ∙ ap positive_square (to_z-of_z w32 y fy) in
      let s' : c ≡ positive_square z = s ∙ ap positive_square (to_z-of_z w32 z fz) in
      to_z-of_z w32 r fr ∙ d
      ∙ (λ i. pos (root (p' i + q' i + s' i)))
      ∙ sym (cond-false (le_z (greatest x y z) (pos 0)) _ _ (ap (λ g. le_z g (pos 0)) (sym same) ∙ h))
