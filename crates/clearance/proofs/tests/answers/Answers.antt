use Rattle.std.proofs.Common.{refl, lit≤}
use Rattle.tree.specs.Order.{order_fault}
use Rattle.tree.specs.Rows.{whole_entries}
use Rattle.clearance.proofs.tests.answers.Goals as goal

pub invariant_of-scene : goal.invariant_of-scene
unfolding order_fault whole_entries
invariant_of-scene g c = record {
  few_solids = lit≤ tt;
  few_joints = lit≤ tt;
  few_nodes = lit≤ tt;
  named = refl;
  ordered = refl;
  used = refl;
  whole = refl;
}
