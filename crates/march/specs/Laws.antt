-- The laws of a kind of gauge. Assumes nothing.
use Rattle.std.specs.Prelude.{ℤ}
use Rattle.space.specs.Laws.{DistanceLaw}
use Rattle.space.specs.Pt.{Pt, InSpace}
use Rattle.march.specs.Kept.{Kept}
use Rattle.march.specs.Tells.{Tells}
use Rattle.march.specs.declared.reading.Reading.{Reading}

-- Of every gauge g that holds what it must: what it means obeys the distance law; a quick reading x of it at a point p
-- leaves a gauge h that holds what it must and means the same, and x tells the distance right.
pub record GaugeLaws {G : Type 0} (holds : G → Type 0) (means : G → Pt → ℤ) (reads : G → Pt → Reading → G → Type 0) : Type 0 where
  pub near : (g : G) → holds g → DistanceLaw (means g)
  pub kept : (g h : G) (p : Pt) (x : Reading) → InSpace p → holds g → reads g p x h → Kept holds means g h
  pub tells : (g h : G) (p : Pt) (x : Reading) → InSpace p → holds g → reads g p x h → Tells x (means g p)
