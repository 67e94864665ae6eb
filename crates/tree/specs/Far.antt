-- Cells that lie far from every surface. Assumes nothing.
use Rattle.std.specs.Prelude.{ℕ, ◌-◌, ◌*◌, ◌<◌, ◌≤◌, Bool, ℤ, nat_lt, unsigned_abs}
use Rattle.space.specs.Bound.{Bound, signed_as}
use Rattle.space.specs.Pt.{Pt, InSpace, apart²}
use Rattle.tree.specs.Parts.{Parts, Lawful}
use Rattle.tree.specs.Tree.{Tree, value}

-- with d the value at the centre: far where |d| is above C·R
abbrev pub is_far : (C R : ℕ) → ℤ → Bool
is_far C R d = nat_lt (C * R) (unsigned_abs d)

abbrev pub far_constant : ℕ → ℤ → ℤ
far_constant R d = signed_as d (unsigned_abs d - R)

-- At every point within R of the centre the constant of a far cell is a bound of the distance.
abbrev pub FarLaw : Type 0
FarLaw =
    (P : Parts) → Lawful P → (t : Tree) (centre p : Pt) (C R : ℕ) → 2 ≤ C → InSpace centre → InSpace p → apart² centre p ≤ R * R
    → C * R < unsigned_abs (value P t centre)
    → Bound (far_constant R (value P t centre)) (value P t p)
