use Rattle.std.proofs.Common.{map, length}
use Rattle.tree.specs.Rows.{entry_symbol}
use Rattle.scene.specs.Lists.{Evaluable}
use Rattle.scene.proofs.Listings.{listing_ordered, listing_short}
use Rattle.scene.proofs.Wholes.{evaluable}
use Rattle.scene.proofs.scene.Scene.whole.Goals as goal

pub invariant_of-result : goal.invariant_of-result
invariant_of-result g c =
    let s = c.args.self.now in
    let solids = length s.solids.now in
    let joints = length s.joints.now in
    let e : Evaluable solids joints (map entry_symbol s.list.now) = evaluable solids joints s.nodes.now s.list.now s.whole s.named s.ordered s.few_nodes in
    record {
      named = e.within;
      ordered = listing_ordered solids joints s.list.now e;
      short = listing_short solids joints s.list.now e;
    }
