-- What cubes keep. Assumes nothing.
use Rattle.std.specs.Prelude.{◌≡◌, ℕ, suc, ◌*◌, ◌<◌, ◌≤◌, List, length, ℤ, pos, negsuc, ◌+ℤ◌, ◌≤ℤ◌}
use Rattle.space.specs.Pt.{Pt, InSpace, apart²}
use Rattle.cells.specs.Cells.{side, radius, Cube, whole_cube, centre, child, In, child_toward}
use Rattle.cells.specs.Paths.{cube_of, PathOk}

-- a cube in space: of a level that there is, and on each axis between the ends of space
abbrev pub HeldBySpace : ℕ → ℤ → Type 0
HeldBySpace s low = (negsuc 8191 ≤ℤ low) × ((low +ℤ pos s) ≤ℤ pos 8192)

pub record Inside (c : Cube) : Type 0 where
  pub level_in : c.level ≤ 7
  pub x_in : HeldBySpace (side c.level) c.low.x
  pub y_in : HeldBySpace (side c.level) c.low.y
  pub z_in : HeldBySpace (side c.level) c.low.z

-- a side is four times the next level's
abbrev pub SidesLaw : Type 0
SidesLaw = (l : ℕ) → l < 7 → side l ≡ 4 * side (suc l)

-- a path that there is leads to a cube in space, whose level is the path's length
abbrev pub PathsLaw : Type 0
PathsLaw = (path : List ℕ) → PathOk path → ((cube_of path).level ≡ length path) × Inside (cube_of path)

-- a cube in space has its centre, and all its points are in space
abbrev pub PointsLaw : Type 0
PointsLaw = (c : Cube) → Inside c → InSpace (centre c) × In c (centre c) × ((p : Pt) → In c p → InSpace p)

-- every point of the cube is within r of the centre
abbrev pub Reaches : Cube → ℕ → Type 0
Reaches c r = (p : Pt) → In c p → apart² (centre c) p ≤ r * r

-- a level's radius is the least number that reaches every point
abbrev pub RadiusLaw : Type 0
RadiusLaw = (c : Cube) → c.level ≤ 7 → Reaches c (radius c.level) × ((r : ℕ) → Reaches c r → radius c.level ≤ r)

-- children part their cell: a point of the cell is in one child, the child toward it; a point of a child is in the cell
abbrev pub ChildrenLaw : Type 0
ChildrenLaw =
    (c : Cube) → c.level < 7 → (p : Pt)
    → (In c p → (child_toward c p < 64) × In (child c (child_toward c p)) p)
    × ((n : ℕ) → n < 64 → In (child c n) p → In c p × (n ≡ child_toward c p))

-- the whole cube is all of space
abbrev pub WholeCubeLaw : Type 0
WholeCubeLaw = (p : Pt) → InSpace p → In whole_cube p

abbrev pub CellLaw : Type 0
CellLaw = SidesLaw × PathsLaw × PointsLaw × RadiusLaw × ChildrenLaw × WholeCubeLaw
