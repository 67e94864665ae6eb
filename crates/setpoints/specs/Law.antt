-- What holds of the set points from a point to another. Assumes nothing.
use Rattle.std.specs.Prelude.{◌≡◌, ℕ, ◌+◌, ◌*◌, ◌≤◌, ◌-ℤ◌, unsigned_abs}
use Rattle.space.specs.Pt.{Pt, InSpace, apart²}
use Rattle.setpoints.specs.SetPoint.{reach, set_point}

-- two points that differ by at most j along each axis
pub record Close (j : ℕ) (p q : Pt) : Type 0 where
  pub along_x : unsigned_abs (p.x -ℤ q.x) ≤ j
  pub along_y : unsigned_abs (p.y -ℤ q.y) ≤ j
  pub along_z : unsigned_abs (p.z -ℤ q.z) ≤ j

pub record SetPoints (a b : Pt) : Type 0 where
  pub first : set_point a b 0 ≡ a
  pub last : set_point a b (reach a b) ≡ b
  pub inside : (i : ℕ) → i ≤ reach a b → InSpace (set_point a b i)
  pub close : (i j : ℕ) → i + j ≤ reach a b → Close j (set_point a b i) (set_point a b (i + j))
  -- so they are at most 2j apart
  pub near : (i j : ℕ) → i + j ≤ reach a b → apart² (set_point a b i) (set_point a b (i + j)) ≤ 2 * j * (2 * j)

-- for any two points of space
abbrev pub SetPointsLaw : Type 0
SetPointsLaw = (a b : Pt) → InSpace a → InSpace b → SetPoints a b
