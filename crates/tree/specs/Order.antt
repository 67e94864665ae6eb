-- When a list is a tree in post-order for which at most 64 values wait. Assumes nothing.
use Rattle.std.specs.Prelude.{◌≡◌, ℕ, suc, pred, ◌≤◌, max, Bool, cond, not, List, [], ◌∷◌, is_some, Some, None, Option, ◌==◌, nat_lt}
use Rattle.tree.specs.Spell.{Symbol, solid, operator, spell}
use Rattle.tree.specs.Tree.{Tree, leaf, join}

-- The place of the first symbol that has fewer than two operands or makes more than 64 values wait;
-- at the end, where not one value waits, the list's length. The list begins at place i, w values wait.
unfoldable pub order_fault : ℕ → ℕ → List Symbol → Option ℕ
order_fault i w [] = cond (w == 1) None (Some i)
order_fault i w (solid turned n ∷ rest) = let more = order_fault (suc i) (suc w) rest in cond (nat_lt w 64) more (Some i)
order_fault i w (operator op turned n ∷ rest) = let fewer = order_fault (suc i) (pred w) rest in cond (nat_lt w 2) (Some i) fewer

-- whether a list has no fault
abbrev pub in_order : List Symbol → Bool
in_order l = not (is_some (order_fault 0 0 l))

-- how many values wait at once while a tree is worked out in post-order
unfoldable pub depth : Tree → ℕ
depth (leaf turned n) = 1
depth (join op turned n a b) = max (depth a) (suc (depth b))

-- What it is for: a list has no fault exactly when it spells a tree of depth 64 at most, and only one tree.
abbrev pub OrderLaw : Type 0
OrderLaw = (l : List Symbol)
    → (order_fault 0 0 l ≡ None → (t : Tree) × (spell t ≡ l) × (depth t ≤ 64))
    × ((t : Tree) → spell t ≡ l → depth t ≤ 64 → order_fault 0 0 l ≡ None)
    × ((t u : Tree) → spell t ≡ l → spell u ≡ l → t ≡ u)
