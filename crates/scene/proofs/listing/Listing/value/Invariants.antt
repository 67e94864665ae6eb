use Rattle.std.proofs.Common.{[], map, length}
use Rattle.space.specs.At.{at}
use Rattle.tree.specs.Parts.{parts}
use Rattle.tree.specs.Stepped.{stepped}
use Rattle.tree.specs.Rows.{entry_symbol}
use Rattle.scene.proofs.Loops.{Midway}
use Rattle.scene.proofs.listing.Listing.value.Given as goal

abbrev pub invariant-loop-entry : goal.invariant-loop-entry
invariant-loop-entry g l =
    Midway (stepped (parts g.S.Solid.dist g.J.Joint.radius g.J.Joint.fillet l.self.solids.now l.self.joints.now) (at l.p)) (λ st. st) [] (length l.self.solids.now) (length l.self.joints.now) (map entry_symbol l.self.list.now) l.entry-index l.waiting (length l.waiting)
