-- What the program makes of two values, over bits of 32, is the operator's raw value. Assumes nothing.
use Rattle.std.proofs.Common.{◌≡◌, ℕ, ◌+◌, ◌≤◌, ◌^◌, Bool, true, false, cond, ℤ, pos, ◌+ℤ◌, ◌-ℤ◌, nat_abs, ap, ◌∙◌, arith, w32, to_z, of_z}
use Rattle.std.proofs.lemmas.Int.{ints, clamps}
use Rattle.std.specs.Int.{int_max, int_min}
use Rattle.tree.specs.Tree.{union, common, gap, joined}

lesser : (a b m f : ℤ) (n : ℕ) → nat_abs a ≤ 1073741824 → nat_abs b ≤ 1073741824 → n ≤ 1024 → m ≡ int_min a b → f ≡ pos n → to_z w32 (of_z w32 (to_z w32 (of_z w32 m) -ℤ to_z w32 (of_z w32 f))) ≡ int_min a b -ℤ pos n
lesser a b m f n a_small b_small few m_is f_is = omega (arith, ints, clamps)

greater : (a b m f : ℤ) (n : ℕ) → nat_abs a ≤ 1073741824 → nat_abs b ≤ 1073741824 → n ≤ 1024 → m ≡ int_max a b → f ≡ pos n → to_z w32 (of_z w32 (to_z w32 (of_z w32 m) +ℤ to_z w32 (of_z w32 f))) ≡ int_max a b +ℤ pos n
greater a b m f n a_small b_small few m_is f_is = omega (arith, ints, clamps)

module _ (F : ℕ → ℕ) (few : (g : ℕ) → F g ≤ 1024) (a b m f : ℤ) (n d : ℕ) (a_small : nat_abs a ≤ 2 ^ 30) (b_small : nat_abs b ≤ 2 ^ 30) (f_is : f ≡ pos n) (n_is : n ≡ F d) (d_is : d ≡ gap a b) where
  fillet_few : n ≤ 1024
  fillet_few = let h = few d in omega (arith, n_is)

  pub union_is : m ≡ int_min a b → to_z w32 (of_z w32 (to_z w32 (of_z w32 m) -ℤ to_z w32 (of_z w32 f))) ≡ joined union F a b
  union_is m_is = lesser a b m f n a_small b_small fillet_few m_is f_is ∙ ap (λ k. int_min a b -ℤ pos k) (n_is ∙ ap F d_is)

  pub common_is : m ≡ int_max a b → to_z w32 (of_z w32 (to_z w32 (of_z w32 m) +ℤ to_z w32 (of_z w32 f))) ≡ joined common F a b
  common_is m_is = greater a b m f n a_small b_small fillet_few m_is f_is ∙ ap (λ k. int_max a b +ℤ pos k) (n_is ∙ ap F d_is)

-- one of two small values is small
pub picked_small : (first : Bool) (a b r : ℤ) → r ≡ cond first a b → nat_abs a ≤ 2 ^ 30 → nat_abs b ≤ 2 ^ 30 → nat_abs r ≤ 2 ^ 30 + 1024
picked_small true a b r is a_small b_small = omega (arith, ap nat_abs is, a_small)
picked_small false a b r is a_small b_small = omega (arith, ap nat_abs is, b_small)
