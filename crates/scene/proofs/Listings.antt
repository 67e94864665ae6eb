-- What the fields of a listing say. Assumes nothing.
use Rattle.std.proofs.Common.{◌≡◌, ℕ, ◌≤◌, true, not, List, ◌++◌, map, length, take, ℤ, is_some, ap, ◌∙◌, subst, arith, take_at}
use Rattle.space.specs.Pt.{Pt}
use Rattle.std.proofs.lemmas.List.{length-map}
use Rattle.tree.proofs.Orders.{order_law}
use Rattle.tree.specs.Distance.{Distance}
use Rattle.tree.specs.Order.{in_order}
use Rattle.tree.specs.Parts.{Parts}
use Rattle.tree.specs.Rows.{entry_symbol}
use Rattle.tree.specs.Spell.{spell}
use Rattle.tree.specs.Tree.{Tree, value}
use Rattle.tree.specs.declared.node.Entry.{Entry}
use Rattle.scene.specs.Lists.{all_named, Evaluable}
use Rattle.scene.proofs.Wholes.{from_in_order}

module _ (solids joints : ℕ) (list : List Entry) (names : all_named solids joints (map entry_symbol list) ≡ true) (order : in_order (map entry_symbol list) ≡ true) (few : length list ≤ 1023) where
  pub listing_evaluable : Evaluable solids joints (map entry_symbol list)
  listing_evaluable = record {
    within = names;
    ordered = from_in_order (map entry_symbol list) order;
    short = omega (arith, few, length-map list entry_symbol);
  }

  pub listing_distance : (P : Parts) (p : Pt) (v : ℤ) → ((t : Tree) → spell t ≡ map entry_symbol list → v ≡ value P t p) → Distance P (map entry_symbol list) p v
  listing_distance P p v says =
      let found = (order_law (map entry_symbol list)).0 listing_evaluable.ordered in
      (found.0, found.1, says found.0 found.1)

-- what the making of a listing owes
module _ (solids joints : ℕ) (list : List Entry) (e : Evaluable solids joints (map entry_symbol list)) where
  pub listing_ordered : in_order (map entry_symbol list) ≡ true
  listing_ordered = ap (λ o. not (is_some o)) e.ordered

  pub listing_short : length list ≤ 1023
  listing_short = omega (arith, e.short, length-map list entry_symbol)

-- a list that is the front of a free part
pub front_evaluable : (solids joints : ℕ) (free list more : List Entry) (n : ℕ) → free ≡ list ++ more → length list ≡ n → Evaluable solids joints (map entry_symbol (take n free)) → Evaluable solids joints (map entry_symbol list)
front_evaluable solids joints free list more n parted long e =
    subst (λ l. Evaluable solids joints (map entry_symbol l)) (ap (take n) parted ∙ take_at list more n long) e
