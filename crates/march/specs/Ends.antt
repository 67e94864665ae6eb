-- How a march has to end, by the distances alone. Assumes nothing.
use Rattle.std.specs.Prelude.{◌≡◌, ℕ, ◌<◌, ◌≤◌, ℤ, pos, Some, None, Option, ◌≤ℤ◌, ◌<ℤ◌}
use Rattle.space.specs.Pt.{Pt}
use Rattle.march.specs.Route.{Route, last, point_at}
use Rattle.march.specs.declared.outcome.Met.{Met}

-- the distance at set point i is above the margin
abbrev pub Above : (Pt → ℤ) → Route → ℕ → Type 0
Above d r i = pos r.margin <ℤ d (point_at r i)

-- met at set point i with distance v: the first set point whose distance is not above the margin
pub record MetAt (d : Pt → ℤ) (r : Route) (i : ℕ) (v : ℤ) : Type 0 where
  pub within : i ≤ last r
  pub distance : v ≡ d (point_at r i)
  pub reached : v ≤ℤ pos r.margin
  pub first : (j : ℕ) → j < i → Above d r j

-- clear: there is none
abbrev pub Ends : (Pt → ℤ) → Route → Option Met → Type 0
Ends d r (Some m) = MetAt d r m.number m.distance
Ends d r None = (j : ℕ) → j ≤ last r → Above d r j
