use Rattle.std.proofs.Common.{◌≡◌, ◌≤◌, map, drop}
use Rattle.tree.specs.Order.{order_fault}
use Rattle.tree.specs.Rows.{node_symbol}
use Rattle.scenefile.proofs.order.find_order_fault.Given as goal

abbrev pub invariant-loop-i : goal.invariant-loop-i
invariant-loop-i l =
    (order_fault l.i l.waiting (drop l.i (map node_symbol l.nodes)) ≡ order_fault 0 0 (map node_symbol l.nodes))
    × (l.waiting ≤ 64)
