-- The whole list spells the whole tree, and the whole tree has the tree's distance. Assumes nothing.
use Rattle.std.proofs.Common.{◌≡◌, ℕ, Bool, true, false, not, List, [], ◌∷◌, ◌++◌, map, ℤ, neg_ℤ, sym, refl, ap, ◌∙◌, ap₂, append_assoc}
use lib.IntN.{neg_ℤ-neg_ℤ}
use Rattle.space.specs.Pt.{Pt}
use Rattle.tree.specs.Parts.{Parts}
use Rattle.tree.specs.Rows.{node_symbol, node_symbol_of, entry_symbol_of, entry_kind, is_cut_kind, cut_next, whole_entries, EntriesLaw}
use Rattle.tree.specs.Spell.{Symbol, solid, operator, spell}
use Rattle.tree.specs.Tree.{Op, union, common, cut, Tree, leaf, join, turn, value, handed, joined}
use Rattle.tree.specs.declared.node.Node.{Node}
use Rattle.tree.specs.declared.node.NodeKind as n
use Rattle.tree.specs.declared.node.NodeKind.{NodeKind}
use Rattle.tree.specs.Whole.{whole, whole_list, cut_first, symbol_uncut, is_cut, uncut, flipped, WholeLaw}

cut_first_append : (after : Bool) (xs ys : List Symbol) → cut_first after (xs ++ ys) ≡ cut_first (cut_first after ys) xs
cut_first_append after [] ys = refl
cut_first_append after (solid turned n ∷ xs) ys = refl
cut_first_append after (operator op turned n ∷ xs) ys = refl

whole_list_append : (after : Bool) (xs ys : List Symbol) → whole_list after (xs ++ ys) ≡ whole_list (cut_first after ys) xs ++ whole_list after ys
unfolding whole_list
whole_list_append after [] ys = refl
whole_list_append after (x ∷ xs) ys = ap₂ (λ c rest. symbol_uncut c x ∷ rest) (cut_first_append after xs ys) (whole_list_append after xs ys)

-- a tree's list begins with a solid
no_cut_first : (after : Bool) (t : Tree) (rest : List Symbol) → cut_first after (spell t ++ rest) ≡ false
unfolding spell
no_cut_first after (leaf turned n) rest = refl
no_cut_first after (join op turned n a b) rest = rw append_assoc (no_cut_first after a _)

abbrev turn_if : Bool → Tree → Tree
turn_if true t = turn t
turn_if false t = t

-- the lists of two operands and an operator, with what follows each
whole_list_join : (after : Bool) (op : Op) (turned : Bool) (n : ℕ) (a b : Tree) → whole_list after (spell (join op turned n a b)) ≡ whole_list false (spell a) ++ (whole_list (is_cut op) (spell b) ++ (operator (uncut op) (flipped after turned) n ∷ []))
unfolding spell whole_list
whole_list_join after op turned n a b =
    let o = operator op turned n ∷ [] in
    whole_list_append after (spell a) (spell b ++ o)
    ∙ ap₂ (λ c rest. whole_list c (spell a) ++ rest) (no_cut_first after b o) (whole_list_append after (spell b) o)

pub whole_spell : (t : Tree) (after : Bool) → whole_list after (spell t) ≡ spell (turn_if after (whole t))
unfolding spell whole whole_list
whole_spell (leaf turned n) true = refl
whole_spell (leaf turned n) false = refl
whole_spell (join union turned n a b) true = whole_list_join true union turned n a b ∙ rw (whole_spell a false, whole_spell b false)
whole_spell (join union turned n a b) false = whole_list_join false union turned n a b ∙ rw (whole_spell a false, whole_spell b false)
whole_spell (join common turned n a b) true = whole_list_join true common turned n a b ∙ rw (whole_spell a false, whole_spell b false)
whole_spell (join common turned n a b) false = whole_list_join false common turned n a b ∙ rw (whole_spell a false, whole_spell b false)
whole_spell (join cut turned n a b) true = whole_list_join true cut turned n a b ∙ rw (whole_spell a false, whole_spell b true)
whole_spell (join cut turned n a b) false = whole_list_join false cut turned n a b ∙ rw (whole_spell a false, whole_spell b true)

handed_not : (turned : Bool) (v : ℤ) → handed (not turned) v ≡ neg_ℤ (handed turned v)
handed_not true v = sym (neg_ℤ-neg_ℤ v)
handed_not false v = refl

pub turn_value : (P : Parts) (t : Tree) (p : Pt) → value P (turn t) p ≡ neg_ℤ (value P t p)
unfolding value
turn_value P (leaf turned n) p = handed_not turned _
turn_value P (join op turned n a b) p = handed_not turned _

pub whole_value : (P : Parts) (p : Pt) (t : Tree) → value P (whole t) p ≡ value P t p
unfolding value whole
whole_value P p (leaf turned n) = refl
whole_value P p (join union turned n a b) = ap₂ (λ u v. handed turned (joined union (P.fillet n) u v)) (whole_value P p a) (whole_value P p b)
whole_value P p (join common turned n a b) = ap₂ (λ u v. handed turned (joined common (P.fillet n) u v)) (whole_value P p a) (whole_value P p b)
whole_value P p (join cut turned n a b) =
    ap₂ (λ u v. handed turned (joined common (P.fillet n) u v)) (whole_value P p a) (turn_value P (whole b) p ∙ ap neg_ℤ (whole_value P p b))

pub whole_law : WholeLaw
whole_law t = (whole_spell t false, λ P p. whole_value P p t)

-- ---- on rows

node_symbol_uncut : (follows : Bool) (k : NodeKind) (turned : Bool) (m : ℕ) → entry_symbol_of (entry_kind k) (flipped follows turned) m ≡ symbol_uncut follows (node_symbol_of k turned m)
node_symbol_uncut follows n.TheVariants.Solid turned m = refl
node_symbol_uncut follows n.TheVariants.Union turned m = refl
node_symbol_uncut follows n.TheVariants.Common turned m = refl
node_symbol_uncut follows n.TheVariants.Cut turned m = refl

cut_symbol : (k : NodeKind) (turned : Bool) (m : ℕ) (rest : List Symbol) → cut_first false (node_symbol_of k turned m ∷ rest) ≡ is_cut_kind k
cut_symbol n.TheVariants.Solid turned m rest = refl
cut_symbol n.TheVariants.Union turned m rest = refl
cut_symbol n.TheVariants.Common turned m rest = refl
cut_symbol n.TheVariants.Cut turned m rest = refl

cut_rows : (nodes : List Node) → cut_first false (map node_symbol nodes) ≡ cut_next nodes
cut_rows [] = refl
cut_rows (row ∷ rest) = cut_symbol row.kind row.turned row.number (map node_symbol rest)

pub entries_law : EntriesLaw
unfolding whole_entries whole_list
entries_law [] = refl
entries_law (row ∷ rest) =
    ap₂ (λ s l. s ∷ l)
    (node_symbol_uncut (cut_next rest) row.kind row.turned row.number ∙ ap (λ c. symbol_uncut c (node_symbol row)) (sym (cut_rows rest)))
    (entries_law rest)
