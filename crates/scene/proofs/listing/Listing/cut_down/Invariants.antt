use Rattle.std.proofs.Common.{length}
use Rattle.space.specs.At.{at}
use Rattle.tree.specs.Parts.{parts}
use Rattle.scene.proofs.CutLoops.{Halfway}
use Rattle.scene.proofs.listing.Listing.cut_down.Given as goal

abbrev pub invariant-loop-entry : goal.invariant-loop-entry
invariant-loop-entry g l =
    Halfway (parts g.S.Solid.dist g.J.Joint.radius g.J.Joint.fillet l.self.solids.now l.self.joints.now) (at l.around.centre) l.around.radius (length l.self.solids.now) (length l.self.joints.now) l.self.list.now l.initial.cut.free.now l.initial.cut.free.ghost_name l.entry-index l.cut
