use Rattle.std.proofs.Common.{ℕ, List, ◌∷◌, Some, None, sym, refl, ap, ◌∙◌, w32, SFits, rules}
use Rattle.std.proofs.lemmas.Int.{to_z-of_z}
use Rattle.clearance.specs.declared.call.Call.TheVariants.{Distance}
use Rattle.clearance.proofs.Calls.{call_of_text, no_third}
use Rattle.clearance.proofs.Fields.{one_field, first_field}
use Rattle.clearance.specs.Lines.{coordinate, distance_call}
use Rattle.clearance.proofs.reading.read_point.Goals as goal

pub returns-in_err-x : goal.returns-in_err-x
returns-in_err-x c = c.from_residual.ensures ∙ sym (ap distance_call (one_field c.args.text.now c.in_err-x.ensures.cases))

pub returns-in_err-y : goal.returns-in_err-y
returns-in_err-y c =
    let first = first_field c.args.text.now (c.in_ok-x.x, c.in_ok-x.rest) c.in_ok-x.ensures.cases in
    let second = one_field c.in_ok-x.rest.now c.in_err-y.ensures.cases in
    c.from_residual-in_err-y.ensures ∙ sym (ap distance_call (first ∙ ap (λ (fs : List (List ℕ)). c.in_ok-x.x.now ∷ fs) second))

pub returns-in_err-read_coordinate : goal.returns-in_err-read_coordinate
returns-in_err-read_coordinate c =
    let first = first_field c.args.text.now (c.in_ok-x.x, c.in_ok-x.rest) c.in_ok-x.ensures.cases in
    let second = first_field c.in_ok-x.rest.now (c.in_ok-y.y, c.in_ok-y.z) c.in_ok-y.ensures.cases in
    c.from_residual-in_err-read_coordinate.ensures
    ∙ call_of_text c.args.text.now c.in_ok-x.x.now c.in_ok-x.rest.now c.in_ok-y.y.now c.in_ok-y.z.now
    None (coordinate c.in_ok-y.y.now) (coordinate c.in_ok-y.z.now)
    first second c.in_err-read_coordinate.ensures refl refl

pub returns-in_err-read_coordinate-2 : goal.returns-in_err-read_coordinate-2
returns-in_err-read_coordinate-2 c =
    let first = first_field c.args.text.now (c.in_ok-x.x, c.in_ok-x.rest) c.in_ok-x.ensures.cases in
    let second = first_field c.in_ok-x.rest.now (c.in_ok-y.y, c.in_ok-y.z) c.in_ok-y.ensures.cases in
    c.from_residual-in_err-read_coordinate-2.ensures
    ∙ call_of_text c.args.text.now c.in_ok-x.x.now c.in_ok-x.rest.now c.in_ok-y.y.now c.in_ok-y.z.now
    (Some c.in_ok-read_coordinate.field-0) None (coordinate c.in_ok-y.z.now)
    first second c.in_ok-read_coordinate.ensures c.in_err-read_coordinate-2.ensures refl

pub returns-in_err-read_coordinate-3 : goal.returns-in_err-read_coordinate-3
returns-in_err-read_coordinate-3 c =
    let first = first_field c.args.text.now (c.in_ok-x.x, c.in_ok-x.rest) c.in_ok-x.ensures.cases in
    let second = first_field c.in_ok-x.rest.now (c.in_ok-y.y, c.in_ok-y.z) c.in_ok-y.ensures.cases in
    c.from_residual-in_err-read_coordinate-3.ensures
    ∙ no_third c.args.text.now c.in_ok-x.x.now c.in_ok-x.rest.now c.in_ok-y.y.now c.in_ok-y.z.now
    first second c.in_err-read_coordinate-3.ensures

pub returns : goal.returns
returns c =
    let first = first_field c.args.text.now (c.in_ok-x.x, c.in_ok-x.rest) c.in_ok-x.ensures.cases in
    let second = first_field c.in_ok-x.rest.now (c.in_ok-y.y, c.in_ok-y.z) c.in_ok-y.ensures.cases in
    let x_fits : SFits w32 c.in_ok-read_coordinate.field-0 = search rules in
    let y_fits : SFits w32 c.in_ok-read_coordinate-2.field-0 = search rules in
    let z_fits : SFits w32 c.in_ok-read_coordinate-3.field-0 = search rules in
    (λ i. Some (Distance (to_z-of_z w32 _ x_fits i) (to_z-of_z w32 _ y_fits i) (to_z-of_z w32 _ z_fits i)))
    ∙ call_of_text c.args.text.now c.in_ok-x.x.now c.in_ok-x.rest.now c.in_ok-y.y.now c.in_ok-y.z.now
    (Some c.in_ok-read_coordinate.field-0) (Some c.in_ok-read_coordinate-2.field-0) (Some c.in_ok-read_coordinate-3.field-0)
    first second
    c.in_ok-read_coordinate.ensures c.in_ok-read_coordinate-2.ensures c.in_ok-read_coordinate-3.ensures
