-- A tree in post-order: both operands, then the operator. Assumes nothing.
use Rattle.std.specs.Prelude.{ℕ, Bool, true, false, List, [], ◌∷◌, ◌++◌}
use Rattle.tree.specs.Tree.{Op, Tree, leaf, join}

-- one place of a post-order list: a solid or an operator, whether it is turned over, and its number
pub data Symbol : Type 0 where
  solid : Bool → ℕ → Symbol
  operator : Op → Bool → ℕ → Symbol

abbrev pub is_solid : Symbol → Bool
is_solid (solid turned n) = true
is_solid (operator op turned n) = false

unfoldable pub spell : Tree → List Symbol
spell (leaf turned n) = solid turned n ∷ []
spell (join op turned n a b) = spell a ++ (spell b ++ (operator op turned n ∷ []))

-- the lists of trees that wait, one after another, the last tree on top
abbrev pub spell_all : List Tree → List Symbol
spell_all [] = []
spell_all (t ∷ waiting) = spell_all waiting ++ spell t
