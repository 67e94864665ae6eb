-- The number that stands for a kind of node. Assumes nothing.
use Rattle.std.specs.Prelude.{ℕ}
use Rattle.tree.specs.declared.node.NodeKind.{NodeKind}
use Rattle.tree.specs.declared.node.NodeKind.TheVariants.{Solid, Union, Common, Cut}

abbrev pub kind_number : NodeKind → ℕ
kind_number Solid = 1
kind_number Union = 2
kind_number Common = 3
kind_number Cut = 4
