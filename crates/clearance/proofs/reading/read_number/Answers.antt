use Rattle.std.proofs.Common.{sym, ◌∙◌, lit<}
use Rattle.std.proofs.lemmas.Str.Pattern.{starts_char}
use Rattle.std.proofs.lemmas.Bool.{both_ways}
use Rattle.clearance.proofs.Numbers.{long_none, plus_none, parsed}
use Rattle.clearance.proofs.reading.read_number.Goals as goal

pub returns-then-field-gt5 : goal.returns-then-field-gt5
returns-then-field-gt5 c = sym (long_none c.args.field.now c.if-field-gt5.true)

pub returns-then-starts_with : goal.returns-then-starts_with
returns-then-starts_with c =
    let tells = starts_char 43 c.args.field.now c.starts_with.result c.starts_with.ensures.cases (lit< tt) (lit< tt) in
    sym (plus_none c.args.field.now (tells.0 c.if-starts_with.true))

pub returns : goal.returns
returns c =
    let tells = starts_char 43 c.args.field.now c.starts_with.result c.starts_with.ensures.cases (lit< tt) (lit< tt) in
    c.ok.ensures.value
    ∙ parsed c.args.field.now c.parse.result c.parse.ensures.value.0 (λ e. both_ways _ c.if-starts_with.false (tells.1 e)) c.if-field-gt5.false
