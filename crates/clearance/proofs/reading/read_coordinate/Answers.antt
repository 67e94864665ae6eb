use Rattle.std.proofs.Common.{◌≡◌, ℕ, ◌<◌, ℤ, pos, ◌-ℤ◌, neg_ℤ, Some, None, sym, ap, ◌∙◌, arith, lit<, w32, to_z, of_z, rules}
use Rattle.std.proofs.lemmas.Int.{ints}
use Rattle.clearance.specs.Lines.{signed_by}
use Rattle.std.proofs.lemmas.Str.Pattern.{strip_prefix_char}
use Rattle.clearance.proofs.Numbers.{number_small, coordinate_minus, coordinate_plain}
use Rattle.clearance.proofs.reading.read_coordinate.Goals as goal

negated : (n : ℕ) → n < 100000 → to_z w32 (of_z w32 (pos 0 -ℤ to_z w32 n)) ≡ neg_ℤ (pos n)
negated n small = omega (arith, ints)

kept : (n : ℕ) → n < 100000 → to_z w32 n ≡ pos n
kept n small = omega (arith, ints)

pub overflow_cast-result : goal.overflow_cast-result
overflow_cast-result c =
    let small : c.in_ok-read_number-in-Some.field-0 < 100000 = number_small _ _ (sym c.in_ok-read_number-in-Some.ensures) in
    search rules

pub overflow_sub-result : goal.overflow_sub-result
overflow_sub-result c =
    let small : c.in_ok-read_number-in-Some.field-0 < 100000 = number_small _ _ (sym c.in_ok-read_number-in-Some.ensures) in
    search rules

pub overflow_cast-result-in-None : goal.overflow_cast-result-in-None
overflow_cast-result-in-None c =
    let small : c.in_ok-read_number-in-None.field-0 < 100000 = number_small _ _ (sym c.in_ok-read_number-in-None.ensures) in
    search rules

pub returns-in_ok-read_number-in-Some : goal.returns-in_ok-read_number-in-Some
returns-in_ok-read_number-in-Some c =
    let minus = strip_prefix_char 45 c.args.field.now (Some c.in-Some.digits) c.in-Some.ensures.cases (lit< tt) in
    let read = c.in_ok-read_number-in-Some.ensures in
    ap (λ (z : ℤ). Some z) (negated _ (number_small _ _ (sym read)))
    ∙ ap (signed_by (λ n. neg_ℤ (pos n))) read
    ∙ sym (coordinate_minus _ _ minus)

pub returns-in_ok-read_number-in-None : goal.returns-in_ok-read_number-in-None
returns-in_ok-read_number-in-None c =
    let plain = strip_prefix_char 45 c.args.field.now None c.in-None.ensures.cases (lit< tt) in
    let read = c.in_ok-read_number-in-None.ensures in
    ap (λ (z : ℤ). Some z) (kept _ (number_small _ _ (sym read))) ∙ ap (signed_by pos) read ∙ sym (coordinate_plain _ plain)

pub returns-in_err-read_number-in-None : goal.returns-in_err-read_number-in-None
returns-in_err-read_number-in-None c =
    let plain = strip_prefix_char 45 c.args.field.now None c.in-None.ensures.cases (lit< tt) in
    c.from_residual-in_err-read_number-in-None.ensures ∙ ap (signed_by pos) c.in_err-read_number-in-None.ensures ∙ sym (coordinate_plain _ plain)
