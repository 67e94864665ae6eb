-- The whole list of an accepted node table can be worked out, and gives the table's distance. Assumes nothing.
use Rattle.std.proofs.Common.{◌≡◌, ℕ, suc, pred, ◌≤◌, Bool, true, false, cond, not, ◌&&◌, ltb, List, [], ◌∷◌, map, length, ℤ, is_some, Some, None, Option, sym, refl, ap, ◌∙◌, ap₂, arith}
use Rattle.space.specs.Pt.{Pt}
use Rattle.std.proofs.lemmas.List.{length-map}
use Rattle.tree.proofs.Orders.{order_law}
use Rattle.tree.proofs.Wholes.{whole_law, entries_law}
use Rattle.tree.specs.Distance.{Distance}
use Rattle.tree.specs.Order.{order_fault, in_order}
use Rattle.tree.specs.Parts.{Parts}
use Rattle.tree.specs.Rows.{node_symbol, entry_symbol, whole_entries}
use Rattle.tree.specs.Spell.{Symbol, solid, operator, spell}
use Rattle.tree.specs.Tree.{Tree, value}
use Rattle.tree.specs.Whole.{whole, whole_list, symbol_uncut}
use Rattle.tree.specs.declared.node.Entry.{Entry}
use Rattle.tree.specs.declared.node.Node.{Node}
use Rattle.scene.specs.Lists.{named, all_named, Evaluable}

no_fault : (o : Option ℕ) → not (is_some o) ≡ true → o ≡ None
no_fault None e = refl
no_fault (Some i) e = let z : ◌≡◌ {A = Bool} false true = e in let y : ◌≡◌ {A = Option ℕ} (Some i) None = cc in y

pub from_in_order : (l : List Symbol) → in_order l ≡ true → order_fault 0 0 l ≡ None
from_in_order l e = no_fault (order_fault 0 0 l) e

named_uncut : (solids joints : ℕ) (follows : Bool) (s : Symbol) → named solids joints (symbol_uncut follows s) ≡ named solids joints s
named_uncut solids joints follows (solid turned n) = refl
named_uncut solids joints follows (operator op turned n) = refl

all_named_whole : (solids joints : ℕ) (after : Bool) (l : List Symbol) → all_named solids joints (whole_list after l) ≡ all_named solids joints l
unfolding whole_list
all_named_whole solids joints after [] = refl
all_named_whole solids joints after (s ∷ rest) = ap₂ ◌&&◌ (named_uncut solids joints _ s) (all_named_whole solids joints after rest)

order_whole : (after : Bool) (l : List Symbol) (i w : ℕ) → order_fault i w (whole_list after l) ≡ order_fault i w l
unfolding whole_list order_fault
order_whole after [] i w = refl
order_whole after (solid turned n ∷ rest) i w = ap (λ o. cond (ltb w 64) o (Some i)) (order_whole after rest (suc i) (suc w))
order_whole after (operator op turned n ∷ rest) i w = ap (λ o. cond (ltb w 2) (Some i) o) (order_whole after rest (suc i) (pred w))

length_whole : (after : Bool) (l : List Symbol) → length (whole_list after l) ≡ length l
unfolding whole_list
length_whole after [] = refl
length_whole after (s ∷ rest) = ap suc (length_whole after rest)

module _ (solids joints : ℕ) (nodes : List Node) (list : List Entry) (is : list ≡ whole_entries nodes) where
  symbols : map entry_symbol list ≡ whole_list false (map node_symbol nodes)
  symbols = ap (map entry_symbol) is ∙ entries_law nodes

  pub evaluable : all_named solids joints (map node_symbol nodes) ≡ true → in_order (map node_symbol nodes) ≡ true → length nodes ≤ 1023 → Evaluable solids joints (map entry_symbol list)
  evaluable all order few = record {
    within = ap (all_named solids joints) symbols ∙ all_named_whole solids joints false (map node_symbol nodes) ∙ all;
    ordered = ap (order_fault 0 0) symbols ∙ order_whole false (map node_symbol nodes) 0 0 ∙ from_in_order (map node_symbol nodes) order;
    short =
        let same = ap length symbols ∙ length_whole false (map node_symbol nodes) ∙ length-map nodes node_symbol in
        omega (arith, same);
  }

  -- the list's value is the node table's
  pub same_distance : (P : Parts) (p : Pt) (v : ℤ) → in_order (map node_symbol nodes) ≡ true → ((t : Tree) → spell t ≡ map entry_symbol list → v ≡ value P t p) → Distance P (map node_symbol nodes) p v
  same_distance P p v order says =
      let found = (order_law (map node_symbol nodes)).0 (from_in_order (map node_symbol nodes) order) in
      let t = found.0 in
      let law = whole_law t in
      (t, found.1, says (whole t) (sym law.0 ∙ ap (whole_list false) found.1 ∙ sym symbols) ∙ law.1 P p)
