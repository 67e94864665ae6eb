-- One entry worked out, from what its calls answer. Assumes nothing.
use Rattle.std.proofs.Common.{◌≡◌, List, ◌∷◌, length, sym, ap, ◌∙◌}
use Rattle.tree.specs.Rows.{entry_symbol, entry_symbol_of}
use Rattle.tree.specs.declared.node.Entry.{Entry}
use Rattle.tree.specs.declared.node.EntryKind.TheVariants.{Solid}
use Rattle.scene.specs.Lists.{counted}

module _ {X : Type 0} (e : Entry) where
  pub solid_count : (st after : List X) (v : X) → e.kind ≡ Solid → after ≡ v ∷ st → length after ≡ counted (entry_symbol e) (length st)
  solid_count st after v kind put =
      ap length put ∙ ap (λ k. counted (entry_symbol_of k e.turned e.number) (length st)) (sym kind)
