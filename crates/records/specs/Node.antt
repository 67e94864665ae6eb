-- The record of a node, 4 bytes. Assumes nothing.
use Rattle.std.specs.Prelude.{ℕ, cond, List, ◌∷◌}
use Rattle.tree.specs.declared.node.Node.{Node}
use Rattle.tree.specs.KindNumber.{kind_number}
use Rattle.records.specs.LittleEndian.{u16_le}

abbrev pub node_record : Node → List ℕ
node_record n = kind_number n.kind ∷ cond n.turned 1 0 ∷ u16_le n.number
