-- A motion as the rules see it: two points and a margin. Assumes nothing.
use Rattle.std.specs.Prelude.{ℕ}
use Rattle.setpoints.specs.SetPoint.{reach, set_point}
use Rattle.space.specs.Pt.{Pt}

pub record Route : Type 0 where
  pub from : Pt
  pub to : Pt
  pub margin : ℕ

-- N, the number of its last set point
abbrev pub last : Route → ℕ
last r = reach r.from r.to

-- its set point i
abbrev pub point_at : Route → ℕ → Pt
point_at r i = set_point r.from r.to i
