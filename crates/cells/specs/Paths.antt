-- Paths down from the whole cube. Assumes nothing.
use Rattle.std.specs.Prelude.{ℕ, ◌<◌, ◌≤◌, List, [], ◌∷◌, length}
use Rattle.cells.specs.Cells.{Cube, whole_cube, child}
use Rattle.std.specs.List.{AllByRecursion}

-- A path is the list of the children's numbers, the last child first: a descent puts a number in front, a rise
-- takes the front one off.
unfoldable pub cube_of : List ℕ → Cube
cube_of [] = whole_cube
cube_of (n ∷ path) = child (cube_of path) n

-- a path that there is: it ends at level 7 at the latest, and each number is a child's
pub record PathOk (path : List ℕ) : Type 0 where
  pub short : length path ≤ 7
  pub numbers : AllByRecursion (λ n. n < 64) path
