-- How the files of a make are laid out. Assumes nothing.
use Rattle.std.specs.Prelude.{ℕ, List}
use Rattle.records.specs.declared.record.Record.{Ghosts}

-- the make's number, the length of a solid's record, and how solids and joints are written
pub record Format (S J : Type 0) : Type 0 where
  pub make : ℕ
  pub size : ℕ
  pub solid : S → List ℕ
  pub joint : J → List ℕ

abbrev pub format : {S J : Type 0} → ℕ → Ghosts S → Ghosts J → Format S J
format make solids joints = record { make = make; size = solids.LENGTH; solid = solids.written; joint = joints.written }
