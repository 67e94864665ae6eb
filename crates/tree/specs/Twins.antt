-- Twins: trees that come from each other by exchanges. Assumes nothing.
use Rattle.std.specs.Prelude.{◌≡◌, ℕ, Bool, not, length}
use Rattle.space.specs.Pt.{Pt}
use Rattle.tree.specs.Parts.{Parts}
use Rattle.tree.specs.Prune.{prune}
use Rattle.tree.specs.Spell.{spell}
use Rattle.tree.specs.Tree.{Op, union, common, cut, Tree, join, turn, value}

-- The three exchanges at any operator, in any number, either way.
pub data Twin : Tree → Tree → Type 0 where
  -- a union becomes a common, and its operands and it itself are turned over
  inside_out : (turned : Bool) (n : ℕ) (a b : Tree) → Twin (join union turned n a b) (join common (not turned) n (turn a) (turn b))
  -- a cut becomes a common, and its second operand is turned over
  uncut : (turned : Bool) (n : ℕ) (a b : Tree) → Twin (join cut turned n a b) (join common turned n a (turn b))
  -- the operands of a union or a common change places
  union_swap : (turned : Bool) (n : ℕ) (a b : Tree) → Twin (join union turned n a b) (join union turned n b a)
  common_swap : (turned : Bool) (n : ℕ) (a b : Tree) → Twin (join common turned n a b) (join common turned n b a)
  -- at either operand, backwards, and one after another
  in_first : (op : Op) (turned : Bool) (n : ℕ) {a a' : Tree} (b : Tree) → Twin a a' → Twin (join op turned n a b) (join op turned n a' b)
  in_second : (op : Op) (turned : Bool) (n : ℕ) (a : Tree) {b b' : Tree} → Twin b b' → Twin (join op turned n a b) (join op turned n a b')
  same : (t : Tree) → Twin t t
  back : {t u : Tree} → Twin t u → Twin u t
  after : {t u v : Tree} → Twin t u → Twin u v → Twin t v

-- Twins have equal values at every point and equally long lists, for all parts, lawful or not.
abbrev pub TwinLaw : Type 0
TwinLaw =
    (t u : Tree) → Twin t u
    → ((P : Parts) (p : Pt) → value P t p ≡ value P u p)
    × (length (spell t) ≡ length (spell u))

-- Pruning takes twins to twins.
abbrev pub TwinsPruned : Type 0
TwinsPruned = (P : Parts) (centre : Pt) (R : ℕ) (t u : Tree) → Twin t u → Twin (prune P centre R t) (prune P centre R u)
