use Rattle.std.proofs.Common.{◌≡◌, ◌+◌, ◌*◌, ◌^◌, ◌≤◌, false, [], map, length, get_or, sym, ap, ◌∙◌, subst₂, add-one, arith, w32, SFits, rules}
use Rattle.std.proofs.lemmas.Int.{to_z-of_z}
use Rattle.space.specs.At.{at}
use Rattle.std.proofs.lemmas.List.{length-map}
use Rattle.tree.proofs.Lawfuls.{parts_lawful}
use Rattle.tree.proofs.Runs.{run, run_tree}
use Rattle.tree.proofs.Sizes.{small_up, stepped_small}
use Rattle.tree.specs.Parts.{parts}
use Rattle.tree.specs.Rows.{entry_symbol}
use Rattle.tree.specs.Stepped.{stepped, on_top}
use Rattle.tree.specs.declared.node.EntryKind.TheVariants.{Solid}
use Rattle.scene.proofs.Listings.{listing_distance}
use Rattle.scene.proofs.Loops.{Midway, at_finish, is_named, is_ready, next, symbol_here}
use Rattle.scene.proofs.Tables.{in_space}
use Rattle.scene.proofs.listing.Listing.value.Goals as goal

pub step-requires : goal.step-requires
step-requires g c =
    let P = parts g.S.Solid.dist g.J.Joint.radius g.J.Joint.fillet c.args.self.now.solids.now c.args.self.now.joints.now in
    let p = at c.args.p in
    let xs = c.args.self.now.list.now in
    let i = c.loop-entry.entry-index in
    let e = get_or xs i (record { kind = Solid; turned = false; number = 0 }) in
    let l = map entry_symbol xs in
    let w = c.loop-entry.waiting in
    let now = c.loop-entry.invariant in
    let here = symbol_here entry_symbol xs i (record { kind = Solid; turned = false; number = 0 }) c.loop-entry-test.true in
    let few : length xs ≤ 1023 = c.args.self.now.short in
    let limit : 32767 + 1024 * i ≤ 2 ^ 30 = omega (arith, c.loop-entry-test.true) in
    record {
      inside = is_named (stepped P p) (λ s. s) [] (length c.args.self.now.solids.now) (length c.args.self.now.joints.now) l i w (length w) (entry_symbol e) now here;
      ready = is_ready (stepped P p) (λ s. s) [] (length c.args.self.now.solids.now) (length c.args.self.now.joints.now) l i w (length w) (entry_symbol e) now here;
      small = small_up (32767 + 1024 * i) (2 ^ 30) limit w now.small;
    }

pub loop-entry-preserved : goal.loop-entry-preserved
loop-entry-preserved g c =
    let P = parts g.S.Solid.dist g.J.Joint.radius g.J.Joint.fillet c.args.self.now.solids.now c.args.self.now.joints.now in
    let p = at c.args.p in
    let xs = c.args.self.now.list.now in
    let i = c.loop-entry.entry-index in
    let e = get_or xs i (record { kind = Solid; turned = false; number = 0 }) in
    let l = map entry_symbol xs in
    let w = c.loop-entry.waiting in
    let here = symbol_here entry_symbol xs i (record { kind = Solid; turned = false; number = 0 }) c.loop-entry-test.true in
    let law = parts_lawful g.S.Solid.dist g.J.Joint.radius g.J.Joint.fillet g.met.S.Solid.near g.met.S.Solid.ranged g.met.J.Joint.smooth c.args.self.now.solids.now c.args.self.now.joints.now in
    let after = next (stepped P p) (λ s. s) [] (length c.args.self.now.solids.now) (length c.args.self.now.joints.now) l i w (length w) (entry_symbol e) c.loop-entry.invariant here (stepped_small P law p (in_space c.args.p) (entry_symbol e) w) in
    subst₂ (λ st w. Midway (stepped P p) (λ s. s) [] (length c.args.self.now.solids.now) (length c.args.self.now.joints.now) l (i + 1) st w) (sym c.step.ensures.after) (sym c.step.ensures.count) (rw add-one after)

pub pop-requires : goal.pop-requires
pop-requires g c =
    let P = parts g.S.Solid.dist g.J.Joint.radius g.J.Joint.fillet c.args.self.now.solids.now c.args.self.now.joints.now in
    let l = map entry_symbol c.args.self.now.list.now in
    let w = c.loop-entry.waiting in
    let i = c.loop-entry.entry-index in
    let done : i ≡ length l = omega (arith, length-map c.args.self.now.list.now entry_symbol, c.loop-entry-test.false, c.loop-entry.auto.entry-index-end) in
    let one = (at_finish (stepped P (at c.args.p)) (λ s. s) [] (length c.args.self.now.solids.now) (length c.args.self.now.joints.now) l i w (length w) c.loop-entry.invariant done).0 in
    omega arith

pub returns : goal.returns
returns g c =
    let L = c.args.self.now in
    let P = parts g.S.Solid.dist g.J.Joint.radius g.J.Joint.fillet L.solids.now L.joints.now in
    let p = at c.args.p in
    let l = map entry_symbol L.list.now in
    let w = c.loop-entry.waiting in
    let i = c.loop-entry.entry-index in
    let done : i ≡ length l = omega (arith, length-map L.list.now entry_symbol, c.loop-entry-test.false, c.loop-entry.auto.entry-index-end) in
    let all = (at_finish (stepped P p) (λ s. s) [] (length L.solids.now) (length L.joints.now) l i w (length w) c.loop-entry.invariant done).1 in
    let fits : SFits w32 c.pop.result = search rules in
    listing_distance (length L.solids.now) (length L.joints.now) L.list.now L.named L.ordered L.short P p _
    (λ t spelled. to_z-of_z w32 c.pop.result fits ∙ ap on_top (sym c.pop.ensures.value ∙ all ∙ ap (λ s. run P p s []) (sym spelled) ∙ run_tree P p t))
