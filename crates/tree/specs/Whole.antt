-- The whole tree: every cut made a common by turning its second operand over. Assumes nothing.
use Rattle.std.specs.Prelude.{◌≡◌, Bool, true, false, not, List, [], ◌∷◌}
use Rattle.space.specs.Pt.{Pt}
use Rattle.tree.specs.Parts.{Parts}
use Rattle.tree.specs.Spell.{Symbol, solid, operator, spell}
use Rattle.tree.specs.Tree.{Op, union, common, cut, Tree, leaf, join, turn, value}

unfoldable pub whole : Tree → Tree
whole (leaf turned n) = leaf turned n
whole (join union turned n a b) = join union turned n (whole a) (whole b)
whole (join common turned n a b) = join common turned n (whole a) (whole b)
whole (join cut turned n a b) = join common turned n (whole a) (turn (whole b))

-- The same on lists, symbol by symbol: the second operand of an operator ends right before it, so a
-- symbol is turned over where a cut follows it. `after` says whether a cut follows the list.
abbrev pub flipped : Bool → Bool → Bool
flipped true turned = not turned
flipped false turned = turned

abbrev pub uncut : Op → Op
uncut union = union
uncut common = common
uncut cut = common

abbrev pub is_cut : Op → Bool
is_cut union = false
is_cut common = false
is_cut cut = true

abbrev pub cut_first : Bool → List Symbol → Bool
cut_first after [] = after
cut_first after (solid turned n ∷ rest) = false
cut_first after (operator op turned n ∷ rest) = is_cut op

abbrev pub symbol_uncut : Bool → Symbol → Symbol
symbol_uncut follows (solid turned n) = solid (flipped follows turned) n
symbol_uncut follows (operator op turned n) = operator (uncut op) (flipped follows turned) n

unfoldable pub whole_list : Bool → List Symbol → List Symbol
whole_list after [] = []
whole_list after (s ∷ rest) = symbol_uncut (cut_first after rest) s ∷ whole_list after rest

-- What it is for: the whole list spells the whole tree, which has the same distance at every point.
abbrev pub WholeLaw : Type 0
WholeLaw = (t : Tree)
    → (whole_list false (spell t) ≡ spell (whole t))
    × ((P : Parts) (p : Pt) → value P (whole t) p ≡ value P t p)
