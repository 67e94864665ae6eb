use Rattle.std.proofs.Common.{◌≡◌, ◌≤◌, ◌+◌, refl, nat_abs, sym, ap, ◌∙◌, arith, w32, rules}
use Rattle.space.specs.At.{at, seen}
use Rattle.space.specs.Refusals.{place}
use Rattle.std.proofs.lemmas.Result.{err_from_is_err_and}
use Rattle.std.proofs.lemmas.Int.{to_z-of_z}
use Rattle.march.specs.Motion.{triple}
use Rattle.march.proofs.Outside.{as_passed, margin_inside, margin_over, margin_misfit, refused_by, kept_by, a_refused, b_place, b_refused, margin_refused, granted}
use Rattle.space.specs.declared.refusal.Refusal.TheVariants.{Outside}
use Rattle.march.proofs.motion.Motion.new.Goals as goal

pub returns-in_err-from : goal.returns-in_err-from
returns-in_err-from c =
    let p = err_from_is_err_and c.from_residual.result c.from_residual.ensures.1 in
    let same = as_passed (triple c.args.from) (search rules) (search rules) (search rules) in
    rw (p.1, p.2) (a_refused (triple c.args.from) (triple c.args.to) c.args.margin c.in_err-from.field-0.0 (c.in_err-from.ensures ∙ same))

pub map_err-requires : goal.map_err-requires
map_err-requires c = λ e is.
    let same = as_passed (triple c.args.to) (search rules) (search rules) (search rules) in
    let refused = ap seen (sym is) ∙ c.new-2.ensures ∙ same in
    let few : place e ≤ 3 = b_place (triple c.args.from) (triple c.args.to) c.args.margin e refused in
    search (rules, arith)

pub returns-in_err-to : goal.returns-in_err-to
returns-in_err-to c =
    let p = err_from_is_err_and c.from_residual-in_err-to.result c.from_residual-in_err-to.ensures.1 in
    let from_same = as_passed (triple c.args.from) (search rules) (search rules) (search rules) in
    let to_same = as_passed (triple c.args.to) (search rules) (search rules) (search rules) in
    let b = refused_by _ c.new-2.result c.map_err.result c.in_err-to.field-0.0 c.map_err.ensures.cases c.in_err-to.was in
    let is : c.in_err-to.field-0.0 ≡ Outside (3 + place b.0) = search (rules, arith) in
    rw (p.1, p.2, is) (b_refused (triple c.args.from) (triple c.args.to) c.args.margin (at c.in_ok-from.from) (c.in_ok-from.ensures ∙ from_same) b.0 (place b.0) (ap seen (sym b.1) ∙ c.new-2.ensures ∙ to_same) refl)

pub returns-in_default : goal.returns-in_default
returns-in_default c =
    let from_same = as_passed (triple c.args.from) (search rules) (search rules) (search rules) in
    let to_same = as_passed (triple c.args.to) (search rules) (search rules) (search rules) in
    let b = kept_by _ c.new-2.result c.map_err.result c.in_ok-to.to c.map_err.ensures.cases c.in_ok-to.was in
    let wrong = margin_over c.args.margin c.ranges.margin c.in-Ok.margin c.in-Ok.ensures.1 c.if-margin-le4095.false in
    margin_refused (triple c.args.from) (triple c.args.to) c.args.margin (at c.in_ok-from.from) (c.in_ok-from.ensures ∙ from_same) (at c.in_ok-to.to) (ap seen (sym b) ∙ c.new-2.ensures ∙ to_same) wrong

pub returns-in_default-2 : goal.returns-in_default-2
returns-in_default-2 c =
    let from_same = as_passed (triple c.args.from) (search rules) (search rules) (search rules) in
    let to_same = as_passed (triple c.args.to) (search rules) (search rules) (search rules) in
    let b = kept_by _ c.new-2.result c.map_err.result c.in_ok-to.to c.map_err.ensures.cases c.in_ok-to.was in
    let wrong = margin_misfit c.args.margin c.ranges.margin c.in_default.ensures in
    margin_refused (triple c.args.from) (triple c.args.to) c.args.margin (at c.in_ok-from.from) (c.in_ok-from.ensures ∙ from_same) (at c.in_ok-to.to) (ap seen (sym b) ∙ c.new-2.ensures ∙ to_same) wrong

pub returns : goal.returns
returns c =
    let from_same = as_passed (triple c.args.from) (search rules) (search rules) (search rules) in
    let to_same = as_passed (triple c.args.to) (search rules) (search rules) (search rules) in
    let b = kept_by _ c.new-2.result c.map_err.result c.in_ok-to.to c.map_err.ensures.cases c.in_ok-to.was in
    let m = c.args.margin in
    let fine = margin_inside m c.ranges.margin c.in-Ok.margin c.in-Ok.ensures.0 c.in-Ok.ensures.1 c.if-margin-le4095.true in
    granted (triple c.args.from) (triple c.args.to) m (at c.in_ok-from.from) (c.in_ok-from.ensures ∙ from_same) (at c.in_ok-to.to) (ap seen (sym b) ∙ c.new-2.ensures ∙ to_same) c.in-Ok.margin (c.in-Ok.ensures.1 ∙ ap nat_abs (to_z-of_z w32 m c.ranges.margin)) fine
