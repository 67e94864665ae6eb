-- A pruned list gives the distances of the list. Assumes nothing.
use Rattle.std.proofs.Common.{◌≡◌, ℕ, ◌*◌, ◌≤◌, List, map, take, ℤ, sym, ap, ◌∙◌}
use Rattle.space.specs.Pt.{Pt, InSpace, apart²}
use Rattle.tree.proofs.Orders.{spell_one}
use Rattle.tree.proofs.Pruning.{prune_law}
use Rattle.tree.specs.Distance.{Distance}
use Rattle.tree.specs.Parts.{Parts, Lawful}
use Rattle.tree.specs.Prune.{prune}
use Rattle.tree.specs.Rows.{entry_symbol}
use Rattle.tree.specs.Tree.{Tree, value}
use Rattle.tree.specs.declared.node.Entry.{Entry}
use Rattle.scene.specs.Pruned.{CutDown}
use Rattle.scene.specs.declared.pruned.Pruned.{Pruned}

pub says_the_same : (P : Parts) → Lawful P → (c : Pt) (R : ℕ) (list free : List Entry) (r : Pruned) → InSpace c → CutDown P c R list free r → (p : Pt) (v : ℤ) → InSpace p → apart² c p ≤ R * R → Distance P (map entry_symbol list) p v → Distance P (map entry_symbol (take r.length free)) p v
says_the_same P law c R list free r c_in did p v p_in close given =
    let t = did.tree in
    let same : given.0 ≡ t = spell_one given.0 t (given.1 ∙ sym did.spelled) in
    (prune P c R t, sym did.entries, given.2 ∙ ap (λ (u : Tree). value P u p) same ∙ sym (prune_law P law t c p R c_in p_in close))
