use Rattle.std.proofs.Common.{length, Ok, subst}
use Rattle.descent.specs.Descent.{ReadyAgain}
use Rattle.descent.specs.declared.child.Child.{Child}
use Rattle.scene.proofs.Listings.{front_evaluable, listing_ordered, listing_short}
use Rattle.vectors.proofs.path_cases.+follow.Goals as goal

pub split_at_mut-list-requires : goal.split_at_mut-list-requires
split_at_mut-list-requires g t c =
    let held = c.args.held.now in
    let again = subst (λ (r : Child). ReadyAgain (length held.solids.now) (length held.joints.now) c.descend.new.free (Ok r)) c.in-Near.is c.in-Ok.ensures.again in
    again.0

pub invariant_of-next : goal.invariant_of-next
invariant_of-next g t c =
    let held = c.args.held.now in
    let solids = length held.solids.now in
    let joints = length held.joints.now in
    let free = c.descend.new.free in
    let again = subst (λ (r : Child). ReadyAgain solids joints free (Ok r)) c.in-Near.is c.in-Ok.ensures.again in
    let parts = c.split_at_mut-list in
    let list = parts.result.0.now in
    let e = front_evaluable solids joints free list parts.result.1.now c.in-Near.length parts.ensures.value parts.ensures.front_len again.1 in
    record {
      named = e.within;
      ordered = listing_ordered solids joints list e;
      short = listing_short solids joints list e;
    }
