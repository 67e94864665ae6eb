-- Cutting a tree down for the points within R of a centre. Assumes nothing.
use Rattle.std.specs.Prelude.{◌≡◌, ℕ, ◌+◌, ◌*◌, ◌≤◌, Bool, true, false, cond, ℤ, int_lt, nat_lt}
use Rattle.space.specs.Pt.{Pt, InSpace, apart²}
use Rattle.tree.specs.Parts.{Parts, Lawful}
use Rattle.tree.specs.Tree.{Op, union, common, cut, Tree, leaf, join, turn, value, gap}

-- a kept operand's turn is combined with that of the operator that drops out
abbrev pub turned_by : Bool → Tree → Tree
turned_by true t = turn t
turned_by false t = t

-- of two operands with the values a and b, a union keeps the lesser and a common the greater
abbrev pub kept : Op → ℤ → ℤ → Tree → Tree → Tree
kept union a b left right = cond (int_lt a b) left right
kept common a b left right = cond (int_lt a b) right left
kept cut a b left right = cond (int_lt a b) right left

-- an operator over operands that are cut down already: it drops out where their gap at the centre is
-- above k + 2R
abbrev pub pruned_join : Parts → Pt → ℕ → Op → Bool → ℕ → Tree → Tree → Tree
pruned_join P centre R op turned n a b =
    cond (nat_lt (P.radius n + 2 * R) (gap (value P a centre) (value P b centre)))
    (turned_by turned (kept op (value P a centre) (value P b centre) a b))
    (join op turned n a b)

-- bottom up; a cut is the common that turning its second operand over makes of it
unfoldable pub prune : Parts → Pt → ℕ → Tree → Tree
prune P centre R (leaf turned n) = leaf turned n
prune P centre R (join union turned n a b) = pruned_join P centre R union turned n (prune P centre R a) (prune P centre R b)
prune P centre R (join common turned n a b) = pruned_join P centre R common turned n (prune P centre R a) (prune P centre R b)
prune P centre R (join cut turned n a b) = pruned_join P centre R common turned n (prune P centre R a) (turn (prune P centre R b))

-- At every point within R of the centre the pruned tree's value is the tree's, however many operators drop
-- out one above the other.
abbrev pub PruneLaw : Type 0
PruneLaw =
    (P : Parts) → Lawful P → (t : Tree) (centre p : Pt) (R : ℕ) → InSpace centre → InSpace p → apart² centre p ≤ R * R
    → value P (prune P centre R t) p ≡ value P t p
