use Rattle.std.proofs.Common.{◌≡◌, ◌+◌, ◌*◌, ◌^◌, ◌≤◌, false, map, length, get_or, refl, add-one, arith, w32, SFits, rules}
use Rattle.space.specs.At.{at}
use Rattle.std.proofs.lemmas.List.{length-map}
use Rattle.std.proofs.lemmas.Int.{to_z-of_z}
use Rattle.tree.proofs.Lawfuls.{parts_lawful}
use Rattle.tree.specs.Parts.{parts}
use Rattle.tree.specs.Rows.{entry_symbol}
use Rattle.tree.specs.declared.node.EntryKind.TheVariants.{Solid}
use Rattle.scene.proofs.CutLoops.{begins, stacked, small, named_here, ready_here, goes_on, one_waits, finishes}
use Rattle.scene.proofs.Listings.{listing_evaluable}
use Rattle.scene.proofs.Loops.{symbol_here}
use Rattle.scene.proofs.Tables.{in_space}
use Rattle.scene.proofs.listing.Listing.cut_down.Goals as goal

pub loop-entry-init : goal.loop-entry-init
loop-entry-init g c =
    let L = c.args.self.now in
    let P = parts g.S.Solid.dist g.J.Joint.radius g.J.Joint.fillet L.solids.now L.joints.now in
    let solids = length L.solids.now in
    let joints = length L.joints.now in
    let ready = listing_evaluable solids joints L.list.now L.named L.ordered L.short in
    begins P (at c.args.around.centre) c.args.around.radius solids joints L.list.now c.args.cut.now.free.now _ ready c.args.cut.now refl refl c.requires.none c.requires.empty

pub cut_entry-requires : goal.cut_entry-requires
cut_entry-requires g c =
    let L = c.args.self.now in
    let P = parts g.S.Solid.dist g.J.Joint.radius g.J.Joint.fillet L.solids.now L.joints.now in
    let p = at c.args.around.centre in
    let R = c.args.around.radius in
    let solids = length L.solids.now in
    let joints = length L.joints.now in
    let was = c.args.cut.now.free.now in
    let l = c.loop-entry in
    let i = l.entry-index in
    let e = get_or L.list.now i (record { kind = Solid; turned = false; number = 0 }) in
    let here = symbol_here entry_symbol L.list.now i (record { kind = Solid; turned = false; number = 0 }) c.loop-entry-test.true in
    let limit : 32767 + 1024 * i ≤ 2 ^ 30 = omega (arith, c.loop-entry-test.true, L.short) in
    record {
      inside = named_here P p R solids joints L.list.now was _ i l.cut l.invariant (entry_symbol e) here;
      ready = ready_here P p R solids joints L.list.now was _ i l.cut l.invariant (entry_symbol e) here;
      stacked = stacked P p R solids joints L.list.now was _ i l.cut l.invariant;
      small = small P p R solids joints L.list.now was _ i l.cut l.invariant limit;
      room = omega (arith, l.invariant.few, l.invariant.long, c.loop-entry-test.true, c.requires.room);
    }

pub loop-entry-preserved : goal.loop-entry-preserved
loop-entry-preserved g c =
    let L = c.args.self.now in
    let P = parts g.S.Solid.dist g.J.Joint.radius g.J.Joint.fillet L.solids.now L.joints.now in
    let l = c.loop-entry in
    let i = l.entry-index in
    let e = get_or L.list.now i (record { kind = Solid; turned = false; number = 0 }) in
    let here = symbol_here entry_symbol L.list.now i (record { kind = Solid; turned = false; number = 0 }) c.loop-entry-test.true in
    let law = parts_lawful g.S.Solid.dist g.J.Joint.radius g.J.Joint.fillet g.met.S.Solid.near g.met.S.Solid.ranged g.met.J.Joint.smooth L.solids.now L.joints.now in
    let did = c.cut_entry.ensures in
    rw add-one
    (goes_on P (at c.args.around.centre) c.args.around.radius (length L.solids.now) (length L.joints.now) L.list.now c.args.cut.now.free.now _ i l.cut l.invariant (entry_symbol e) here law (in_space c.args.around.centre) c.loop-entry-test.true
    c.cut_entry.new.cut did.laid did.count did.grown)

pub pop-requires : goal.pop-requires
pop-requires g c =
    let L = c.args.self.now in
    let P = parts g.S.Solid.dist g.J.Joint.radius g.J.Joint.fillet L.solids.now L.joints.now in
    let solids = length L.solids.now in
    let joints = length L.joints.now in
    let l = c.loop-entry in
    let done : l.entry-index ≡ length (map entry_symbol L.list.now) = omega (arith, length-map L.list.now entry_symbol, c.loop-entry-test.false, l.auto.entry-index-end) in
    let ready = listing_evaluable solids joints L.list.now L.named L.ordered L.short in
    let one = one_waits P (at c.args.around.centre) c.args.around.radius solids joints L.list.now c.args.cut.now.free.now _ l.entry-index l.cut l.invariant done ready in
    omega (arith, one)

pub returns : goal.returns
returns g c =
    let L = c.args.self.now in
    let P = parts g.S.Solid.dist g.J.Joint.radius g.J.Joint.fillet L.solids.now L.joints.now in
    let solids = length L.solids.now in
    let joints = length L.joints.now in
    let l = c.loop-entry in
    let done : l.entry-index ≡ length (map entry_symbol L.list.now) = omega (arith, length-map L.list.now entry_symbol, c.loop-entry-test.false, l.auto.entry-index-end) in
    let ready = listing_evaluable solids joints L.list.now L.named L.ordered L.short in
    let fits : SFits w32 c.pop.result.value = search rules in
    let all = finishes P (at c.args.around.centre) c.args.around.radius solids joints L.list.now c.args.cut.now.free.now _ l.entry-index l.cut l.invariant done ready c.pop.result c.pop.new.self c.pop.ensures.value _ refl (to_z-of_z w32 c.pop.result.value fits) in
    record { cut = all.0; same_part = l.invariant.same_part; rest = all.1 }
