-- What solid n and joint n of a scene mean, for every n. Assumes nothing.
use Rattle.std.specs.Prelude.{ℕ, List, map, ℤ, pos, slice_index, slice_index_or}
use Rattle.space.specs.Laws.{DistanceLaw, DistanceRange, FilletLaw}
use Rattle.space.specs.Pt.{Pt}

pub record Parts : Type 0 where
  pub distance : ℕ → Pt → ℤ
  pub radius : ℕ → ℕ
  pub fillet : ℕ → ℕ → ℕ

-- every solid keeps the distance law and the range, every joint the fillet law
pub record Lawful (P : Parts) : Type 0 where
  pub near : (n : ℕ) → DistanceLaw (P.distance n)
  pub ranged : (n : ℕ) → DistanceRange (P.distance n)
  pub smooth : (n : ℕ) → FilletLaw (P.radius n) (P.fillet n)

-- What the solid or joint with a number means, from a table of them and what one of them means. Past
-- the table's end all is 0, which keeps the laws too.
abbrev pub solid_distance : {S : Type 0} → (S → Pt → ℤ) → List S → ℕ → Pt → ℤ
solid_distance dist solids n p = slice_index_or (map (λ s. dist s p) solids) n (pos 0)

abbrev pub joint_radius : {J : Type 0} → (J → ℕ) → List J → ℕ → ℕ
joint_radius radius joints n = slice_index (map radius joints) n

abbrev pub joint_fillet : {J : Type 0} → (J → ℕ → ℕ) → List J → ℕ → ℕ → ℕ
joint_fillet fillet joints n gap = slice_index (map (λ j. fillet j gap) joints) n

abbrev pub parts : {S J : Type 0} → (S → Pt → ℤ) → (J → ℕ) → (J → ℕ → ℕ) → List S → List J → Parts
parts dist radius fillet solids joints = record {
  distance = solid_distance dist solids;
  radius = joint_radius radius joints;
  fillet = joint_fillet fillet joints;
}
