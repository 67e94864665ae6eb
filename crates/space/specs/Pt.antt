-- A point as the rules see it: three whole numbers. Assumes nothing.
use Rattle.std.specs.Prelude.{ℕ, ◌+◌, ◌*◌, ℤ, pos, negsuc, ◌-ℤ◌, ◌≤ℤ◌, unsigned_abs}

pub record Pt : Type 0 where
  pub x : ℤ
  pub y : ℤ
  pub z : ℤ

-- a coordinate of a point: -8,192 to 8,191
abbrev pub InRange : ℤ → Type 0
InRange a = (negsuc 8191 ≤ℤ a) × (a ≤ℤ pos 8191)

pub record InSpace (p : Pt) : Type 0 where
  pub x_in : InRange p.x
  pub y_in : InRange p.y
  pub z_in : InRange p.z

-- the square of the difference of two coordinates
abbrev pub square : ℤ → ℕ
square a = unsigned_abs a * unsigned_abs a

-- the squared distance of two points
abbrev pub apart² : Pt → Pt → ℕ
apart² p q = square (p.x -ℤ q.x) + square (p.y -ℤ q.y) + square (p.z -ℤ q.z)
