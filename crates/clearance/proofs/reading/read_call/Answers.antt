use Rattle.std.proofs.Common.{◌≡◌, length, sym, ap, ◌∙◌, arith, rules}
use Rattle.clearance.proofs.Calls.{lone_field, s_call, other_call}
use Rattle.clearance.proofs.Fields.{one_field, first_field}
use Rattle.clearance.proofs.Letters.{lone_letter, other_letter}
use Rattle.clearance.proofs.reading.read_call.Goals as goal

pub returns-in_err-name : goal.returns-in_err-name
returns-in_err-name c =
    let line = c.args.line.now in
    c.from_residual.ensures ∙ sym (lone_field line (one_field line c.in_err-name.ensures.cases))

pub returns-in-Some-s : goal.returns-in-Some-s
returns-in-Some-s c =
    let line = c.args.line.now in
    let name = c.in_ok-name.name in
    let rest = c.in_ok-name.rest in
    let is = lone_letter name.now _ _ _ c.chars.ensures.rest c.in-Some-s.ensures.steps.0 c.in-Some-s.field-0-test c.if-name-eq1.true in
    c.read_point.ensures ∙ sym (s_call line name.now rest.now (first_field line (name, rest) c.in_ok-name.ensures.cases) is)

-- the first letter is `s`, and the name is longer
pub returns-in_default : goal.returns-in_default
returns-in_default c =
    let line = c.args.line.now in
    let name = c.in_ok-name.name in
    let rest = c.in_ok-name.rest in
    sym (other_call line name.now rest.now (first_field line (name, rest) c.in_ok-name.ensures.cases) (λ s. c.if-name-eq1.false (ap length s)))

-- the first letter is another
pub returns-in_default-2 : goal.returns-in_default-2
returns-in_default-2 c =
    let line = c.args.line.now in
    let name = c.in_ok-name.name in
    let rest = c.in_ok-name.rest in
    let other = other_letter name.now _ _ _ c.chars.ensures.rest c.in_default.ensures.steps.0 c.in_default.field-0-test.1 in
    sym (other_call line name.now rest.now (first_field line (name, rest) c.in_ok-name.ensures.cases) other)

-- there is no letter
pub returns-in_default-3 : goal.returns-in_default-3
returns-in_default-3 c =
    let line = c.args.line.now in
    let name = c.in_ok-name.name in
    let rest = c.in_ok-name.rest in
    let none : length c.chars.result.rest.now ≡ 0 = search rules in
    sym (other_call line name.now rest.now (first_field line (name, rest) c.in_ok-name.ensures.cases) (λ s. omega (arith, none, ap length s, ap length c.chars.ensures.rest)))
