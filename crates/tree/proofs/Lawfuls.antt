-- Tables of lawful solids and joints give lawful parts. Assumes nothing.
use Rattle.std.proofs.Common.{ℕ, zero, suc, List, [], ◌∷◌, ℤ, refl, arith}
use Rattle.space.specs.Laws.{DistanceLaw, DistanceRange, FilletLaw}
use Rattle.space.specs.Pt.{Pt}
use Rattle.tree.specs.Parts.{Lawful, parts, solid_distance, joint_radius, joint_fillet}

module _ {S J : Type 0} (dist : S → Pt → ℤ) (radius : J → ℕ) (fillet : J → ℕ → ℕ) where
  near_all : ((s : S) → DistanceLaw (dist s)) → (solids : List S) (n : ℕ) → DistanceLaw (solid_distance dist solids n)
  near_all law [] n p q r p_in q_in close = omega arith
  near_all law (s ∷ rest) zero p q r p_in q_in close = law s p q r p_in q_in close
  near_all law (s ∷ rest) (suc n) p q r p_in q_in close = near_all law rest n p q r p_in q_in close

  ranged_all : ((s : S) → DistanceRange (dist s)) → (solids : List S) (n : ℕ) → DistanceRange (solid_distance dist solids n)
  ranged_all law [] n p p_in = omega arith
  ranged_all law (s ∷ rest) zero p p_in = law s p p_in
  ranged_all law (s ∷ rest) (suc n) p p_in = ranged_all law rest n p p_in

  none_law : FilletLaw 0 (λ gap. 0)
  none_law = record { limited = omega arith; ends = λ gap h. refl; half = λ gap. omega arith; falls = λ gap. omega arith; slowly = λ gap. omega arith }

  smooth_all : ((j : J) → FilletLaw (radius j) (fillet j)) → (joints : List J) (n : ℕ) → FilletLaw (joint_radius radius joints n) (joint_fillet fillet joints n)
  smooth_all law [] n = none_law
  smooth_all law (j ∷ rest) zero = law j
  smooth_all law (j ∷ rest) (suc n) = smooth_all law rest n

  pub parts_lawful : ((s : S) → DistanceLaw (dist s)) → ((s : S) → DistanceRange (dist s)) → ((j : J) → FilletLaw (radius j) (fillet j)) → (solids : List S) (joints : List J) → Lawful (parts dist radius fillet solids joints)
  parts_lawful near ranged smooth solids joints = record {
    near = near_all near solids;
    ranged = ranged_all ranged solids;
    smooth = smooth_all smooth joints;
  }
