-- One symbol of a list that is cut down, over the cut-down trees that wait, the last on top. Assumes nothing.
use Rattle.std.specs.Prelude.{ℕ, Bool, List, [], ◌∷◌}
use Rattle.space.specs.Pt.{Pt}
use Rattle.tree.specs.Parts.{Parts}
use Rattle.tree.specs.Prune.{pruned_join}
use Rattle.tree.specs.Spell.{Symbol, solid, operator}
use Rattle.tree.specs.Tree.{Op, union, common, cut, Tree, leaf, turn}

-- an operator over operands that are cut down already; a cut is the common of the first and the turned second
abbrev pub pruned_operator : Parts → Pt → ℕ → Op → Bool → ℕ → Tree → Tree → Tree
pruned_operator P centre R union turned n a b = pruned_join P centre R union turned n a b
pruned_operator P centre R common turned n a b = pruned_join P centre R common turned n a b
pruned_operator P centre R cut turned n a b = pruned_join P centre R common turned n a (turn b)

-- a solid comes on top as it is; an operator takes its two operands off and puts what is left of them there
abbrev pub cut_step : Parts → Pt → ℕ → Symbol → List Tree → List Tree
cut_step P centre R (solid turned n) waiting = leaf turned n ∷ waiting
cut_step P centre R (operator op turned n) [] = []
cut_step P centre R (operator op turned n) (b ∷ []) = []
cut_step P centre R (operator op turned n) (b ∷ a ∷ waiting) = pruned_operator P centre R op turned n a b ∷ waiting
