-- What a path leads to: the tree cut down along it, or a far cell's constant. Assumes nothing.
use Rattle.std.specs.Prelude.{◌≡◌, ℕ, ◌≤◌, cond, List, [], ◌∷◌, length, ℤ}
use Rattle.space.specs.Pt.{Pt}
use Rattle.cells.specs.Cells.{Cube, radius, centre, In}
use Rattle.cells.specs.Paths.{cube_of, PathOk}
use Rattle.space.specs.Bound.{Bound}
use Rattle.tree.specs.Far.{is_far, far_constant}
use Rattle.tree.specs.Order.{depth}
use Rattle.tree.specs.Parts.{Parts, Lawful}
use Rattle.tree.specs.Prune.{prune}
use Rattle.tree.specs.Spell.{spell}
use Rattle.tree.specs.Tree.{Tree, value}

pub data Held : Type 0 where
  near : Tree → Held
  far : ℤ → Held

-- a tree that is cut down for a cube already, with d its value at the cube's centre: far where |d| is above C·R
abbrev pub marked : (C R : ℕ) → ℤ → Tree → Held
marked C R d t = cond (is_far C R d) (far (far_constant R d)) (near t)

-- One descent, to this cube: the tree is cut down for the cube's centre and radius. No descent from a far cell is
-- granted; its constant would stay.
abbrev pub descended : Parts → (C : ℕ) → Cube → Held → Held
descended P C c (near t) =
    let cut = prune P (centre c) (radius c.level) t in
    marked C (radius c.level) (value P cut (centre c)) cut
descended P C c (far d) = far d

-- the last child stands first in a path
unfoldable pub held : Parts → (C : ℕ) → Tree → List ℕ → Held
held P C t [] = near t
held P C t (n ∷ path) = descended P C (cube_of (n ∷ path)) (held P C t path)

-- what is held says of a distance v: a near tree's value is v, a far constant is a bound of it
abbrev pub Says : Parts → Held → Pt → ℤ → Type 0
Says P (near u) p v = value P u p ≡ v
Says P (far c) p v = Bound c v

-- a near tree has no longer a list and no deeper a stack than t
abbrev pub Fits : Tree → Held → Type 0
Fits t (near u) = (length (spell u) ≤ length (spell t)) × (depth u ≤ depth t)
Fits t (far c) = Unit {0}

-- At every point of the cube that a path leads to, what is held there says what the tree says, and it is not larger
-- than the tree.
abbrev pub HeldLaw : Type 0
HeldLaw =
    (P : Parts) → Lawful P → (C : ℕ) → 2 ≤ C → (t : Tree) (path : List ℕ) → PathOk path
    → ((p : Pt) → In (cube_of path) p → Says P (held P C t path) p (value P t p))
    × Fits t (held P C t path)
