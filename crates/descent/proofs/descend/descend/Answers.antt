use Rattle.std.proofs.Common.{◌≡◌, ℤ, Some, sym, ap, ◌∙◌, ap₂, subst₂, w32, SFits, rules}
use Rattle.cells.specs.Cell.{cube}
use Rattle.cells.specs.Cells.{radius}
use Rattle.descent.specs.Descent.{far_mark}
use Rattle.scene.specs.Pruned.{CutDown}
use Rattle.std.proofs.lemmas.Int.{to_z-of_z}
use Rattle.tree.proofs.Lawfuls.{parts_lawful}
use Rattle.tree.specs.Parts.{parts}
use Rattle.descent.proofs.Descents.{told_far, told_near, lies_within, descends}
use Rattle.descent.proofs.Sayings.{cell_inside, child_says}
use Rattle.descent.proofs.descend.descend.Goals as goal

pub returns-in-Some : goal.returns-in-Some
returns-in-Some g c =
    let l = c.args.held.now in
    let P = parts g.S.Solid.dist g.J.Joint.radius g.J.Joint.fillet l.solids.now l.joints.now in
    let r = c.in_ok-pruned.pruned in
    let did = c.in_ok-pruned.ensures in
    let free = c.prune.new.free in
    let value_fits : SFits w32 r.value = search rules in
    let fits : SFits w32 c.in-Some.constant = search rules in
    let mark = far_mark c.args.factor (radius c.args.child.level) r.value in
    let same : c.far_constant.result ≡ mark = c.far_constant.ensures ∙ ap₂ (λ R (d : ℤ). far_mark c.args.factor R d) c.radius.ensures (to_z-of_z w32 r.value value_fits) in
    let told = told_far mark r.length _ (ap (λ (v : ℤ). Some v) (to_z-of_z w32 c.in-Some.constant fits) ∙ sym c.in-Some.is ∙ same) in
    let cut = subst₂ (λ p R. CutDown P p R l.list.now free r) c.centre.ensures c.radius.ensures did.outcome.1 in
    let law = parts_lawful g.S.Solid.dist g.J.Joint.radius g.J.Joint.fillet g.met.S.Solid.near g.met.S.Solid.ranged g.met.J.Joint.smooth l.solids.now l.joints.now in
    let leads = descends P c.args.factor (cube c.args.child) l.list.now free r _ cut told in
    record {
      outcome = (did.outcome.0, leads);
      says = child_says P law c.args.factor (cube c.args.child) (cell_inside c.args.child) l.list.now free _ leads;
      rest = did.rest;
      again = tt;
    }

pub returns-in-None : goal.returns-in-None
returns-in-None g c =
    let l = c.args.held.now in
    let P = parts g.S.Solid.dist g.J.Joint.radius g.J.Joint.fillet l.solids.now l.joints.now in
    let r = c.in_ok-pruned.pruned in
    let did = c.in_ok-pruned.ensures in
    let free = c.prune.new.free in
    let value_fits : SFits w32 r.value = search rules in
    let mark = far_mark c.args.factor (radius c.args.child.level) r.value in
    let same : c.far_constant.result ≡ mark = c.far_constant.ensures ∙ ap₂ (λ R (d : ℤ). far_mark c.args.factor R d) c.radius.ensures (to_z-of_z w32 r.value value_fits) in
    let told = told_near mark r.length (sym c.in-None.is ∙ same) in
    let cut = subst₂ (λ p R. CutDown P p R l.list.now free r) c.centre.ensures c.radius.ensures did.outcome.1 in
    let law = parts_lawful g.S.Solid.dist g.J.Joint.radius g.J.Joint.fillet g.met.S.Solid.near g.met.S.Solid.ranged g.met.J.Joint.smooth l.solids.now l.joints.now in
    let leads = descends P c.args.factor (cube c.args.child) l.list.now free r _ cut told in
    record {
      outcome = (did.outcome.0, leads);
      says = child_says P law c.args.factor (cube c.args.child) (cell_inside c.args.child) l.list.now free _ leads;
      rest = did.rest;
      again = (lies_within P _ _ l.list.now free r did.outcome.1, did.again);
    }
