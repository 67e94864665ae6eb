-- The distance that a post-order list gives at a point. Assumes nothing.
use Rattle.std.specs.Prelude.{◌≡◌, List, ℤ}
use Rattle.space.specs.Pt.{Pt}
use Rattle.tree.specs.Parts.{Parts}
use Rattle.tree.specs.Spell.{Symbol, spell}
use Rattle.tree.specs.Tree.{Tree, value}

-- v is the value of the tree that the list spells; a list spells one tree at most (the order law)
abbrev pub Distance : Parts → List Symbol → Pt → ℤ → Type 0
Distance P l p v = (t : Tree) × (spell t ≡ l) × (v ≡ value P t p)
