use Rattle.std.proofs.Common.{map, length, sym, ◌∙◌, subst}
use Rattle.space.specs.At.{at}
use Rattle.tree.proofs.Lawfuls.{parts_lawful}
use Rattle.tree.specs.Parts.{parts}
use Rattle.tree.specs.Rows.{entry_symbol}
use Rattle.scene.specs.Lists.{Evaluable}
use Rattle.scene.specs.Pruned.{CutDown, RestKept}
use Rattle.scene.proofs.Listings.{listing_evaluable}
use Rattle.scene.proofs.Names.{pruned_evaluable}
use Rattle.scene.proofs.Same.{says_the_same}
use Rattle.scene.proofs.Tables.{in_space}
use Rattle.scene.proofs.listing.Listing.prune.Goals as goal

pub returns : goal.returns
returns g c =
    let l = c.args.self.now in
    let solids = length l.solids.now in
    let joints = length l.joints.now in
    let P = parts g.S.Solid.dist g.J.Joint.radius g.J.Joint.fillet l.solids.now l.joints.now in
    let law = parts_lawful g.S.Solid.dist g.J.Joint.radius g.J.Joint.fillet g.met.S.Solid.near g.met.S.Solid.ranged g.met.J.Joint.smooth l.solids.now l.joints.now in
    let ready : Evaluable solids joints (map entry_symbol l.list.now) = listing_evaluable solids joints l.list.now l.named l.ordered l.short in
    -- what the free part holds at the end is what the cutting left in it
    let end = sym (c.free-1.given.1.1 (sym (c.cut_down.ensures.same_part ∙ c.new-cut.ensures.same_part))) in
    let did = c.cut_down.ensures in
    let around = c.args.around in
    let r = c.cut_down.result in
    let cut = subst (λ free. CutDown P (at around.centre) around.radius l.list.now free r) end did.cut in
    let began = subst (λ free. RestKept l.list.now free c.cut_down.new.cut.free.now) c.new-cut.ensures.free did.rest in
    record {
      outcome = (c.if-free-self.false, cut);
      same = says_the_same P law (at around.centre) around.radius l.list.now _ r (in_space around.centre) cut;
      rest = subst (RestKept l.list.now c.args.free.now) end began;
      again = pruned_evaluable solids joints P (at around.centre) around.radius l.list.now _ r ready cut;
    }
