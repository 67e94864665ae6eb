-- A scene as a tree, and its distance at a point. Assumes nothing.
use Rattle.std.specs.Prelude.{ℕ, Bool, true, false, not, ℤ, pos, ◌+ℤ◌, ◌-ℤ◌, neg_ℤ, unsigned_abs}
use Rattle.space.specs.Pt.{Pt}
use Rattle.std.specs.Int.{int_max, int_min}
use Rattle.tree.specs.Parts.{Parts}

pub data Op : Type 0 where
  union common cut : Op

-- a solid, or an operator over two operands: whether it is turned over, and the number of its solid or joint
pub data Tree : Type 0 where
  leaf : Bool → ℕ → Tree
  join : Op → Bool → ℕ → Tree → Tree → Tree

-- what a node hands up of its raw value
abbrev pub handed : Bool → ℤ → ℤ
handed true v = neg_ℤ v
handed false v = v

abbrev pub gap : ℤ → ℤ → ℕ
gap a b = unsigned_abs (a -ℤ b)

-- an operator's raw value, by its joint's fillet: union the lesser less the fillet, common the
-- greater plus the fillet, cut the common of the first and the negated second
abbrev pub joined : Op → (ℕ → ℕ) → ℤ → ℤ → ℤ
joined union fillet a b = int_min a b -ℤ pos (fillet (gap a b))
joined common fillet a b = int_max a b +ℤ pos (fillet (gap a b))
joined cut fillet a b = int_max a (neg_ℤ b) +ℤ pos (fillet (gap a (neg_ℤ b)))

-- the distance that a tree gives at a point: what its root hands up
unfoldable pub value : Parts → Tree → Pt → ℤ
value P (leaf turned n) p = handed turned (P.distance n p)
value P (join op turned n a b) p = handed turned (joined op (P.fillet n) (value P a p) (value P b p))

-- the tree whose root is turned over
abbrev pub turn : Tree → Tree
turn (leaf turned n) = leaf (not turned) n
turn (join op turned n a b) = join op (not turned) n a b
