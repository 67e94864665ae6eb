-- Pruning never lengthens a list or deepens its stack. Assumes nothing.
use Rattle.std.specs.Prelude.{ℕ, ◌≤◌, length}
use Rattle.space.specs.Pt.{Pt}
use Rattle.tree.specs.Order.{depth}
use Rattle.tree.specs.Parts.{Parts}
use Rattle.tree.specs.Prune.{prune}
use Rattle.tree.specs.Spell.{spell}
use Rattle.tree.specs.Tree.{Tree}

abbrev pub SmallerLaw : Type 0
SmallerLaw =
    (P : Parts) (centre : Pt) (R : ℕ) (t : Tree)
    → (length (spell (prune P centre R t)) ≤ length (spell t)) × (depth (prune P centre R t) ≤ depth t)
