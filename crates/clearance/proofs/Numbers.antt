-- What `number` and `coordinate` come to. Assumes nothing.
use Rattle.std.proofs.Common.{◌≡◌, ℕ, ◌^◌, ◌<◌, ◌≤◌, Bool, true, false, cond, ◌&&◌, eqb, leb, List, [], ◌∷◌, length, get_or, pos, neg_ℤ, Some, None, Ok, Err, Result, sym, refl, ap, ◌∙◌, ⊎_elim, arith, rules}
use Rattle.clearance.specs.Lines.{all_digits, decimal_after, is_number, number, signed_by, coordinate}
use Rattle.std.proofs.lemmas.Str.Parse.{IsNumeralModel, numerals_by_fold, parse_plain, digits_value_short, not_in_digits}
use Rattle.std.proofs.lemmas.Bool.{leb-true, le-leb, and_parts, and_from, cases_Bool, cond-true, cond-false, ne_eqb}
use Rattle.std.specs.Result.{OkIff, result_ok}
use Rattle.std.specs.Str.Parse.{ParsesUnsigned}

-- `all_digits` and `decimal_after 0` are what `parse` reads
own : IsNumeralModel (λ ds. all_digits ds ≡ true) (decimal_after 0)
own = numerals_by_fold _ (search rules) decimal_after (search rules)

-- the test of `number`, as facts
abbrev pub IsNumber : List ℕ → Type 0
IsNumber field = (1 ≤ length field) × (length field ≤ 5) × (all_digits field ≡ true)

number_parts : (field : List ℕ) → is_number field ≡ true → IsNumber field
number_parts field e =
    let some = and_parts (leb 1 (length field)) (leb (length field) 5 && all_digits field) e in
    let short = and_parts (leb (length field) 5) (all_digits field) some.1 in
    (leb-true 1 (length field) some.0, leb-true (length field) 5 short.0, short.1)

number_some : (field : List ℕ) → IsNumber field → number field ≡ Some (decimal_after 0 field)
unfolding number
number_some field h =
    let short = and_from (leb (length field) 5) (all_digits field) (le-leb (length field) 5 h.1) h.2 in
    cond-true (is_number field) _ _ (and_from (leb 1 (length field)) (leb (length field) 5 && all_digits field) (le-leb 1 (length field) h.0) short)

pub number_none : (field : List ℕ) → (IsNumber field → ⊥) → number field ≡ None
unfolding number
number_none field refused =
    let not_so : is_number field ≡ true → is_number field ≡ false = λ e. absurd (refused (number_parts field e)) in
    cond-false (is_number field) _ _ (⊎_elim not_so (λ e. e) (cases_Bool (is_number field)))

-- what a number's field is
number_is : (field : List ℕ) (n : ℕ) → number field ≡ Some n → IsNumber field × (n ≡ decimal_after 0 field)
unfolding number
number_is field n = split (is_number field) refl
  where
    split : (b : Bool) → is_number field ≡ b → cond b (Some (decimal_after 0 field)) None ≡ Some n → IsNumber field × (n ≡ decimal_after 0 field)
    split true t e = (number_parts field t, cc)
    split false t e = let z : ◌≡◌ {A = ℕ} 0 1 = cc in absurd (let f : ⊥ = omega arith in f)

pub number_small : (field : List ℕ) (n : ℕ) → number field ≡ Some n → n < 100000
number_small field n e =
    let h = number_is field n e in
    omega (arith, digits_value_short own field 5 h.0.2 h.0.1, h.1)

-- what `parse` makes of a short text without a plus
pub parsed : {E : Type 0} (field : List ℕ) (r : Result ℕ E) → ParsesUnsigned 32 10 field r → (get_or field 0 0 ≡ 43 → ⊥) → length field ≤ 5 → result_ok r ≡ number field
parsed field r h plain short = by_result r (parse_plain own 32 field r h plain)
  where
    by_result : {E : Type 0} (r : Result ℕ E) → OkIff r ((all_digits field ≡ true) × (0 < length field) × (decimal_after 0 field < 2 ^ 32)) (decimal_after 0 field) → result_ok r ≡ number field
    by_result (Ok x) h = ap (λ (n : ℕ). Some n) h.1 ∙ sym (number_some field (omega arith, short, h.0.0))
    by_result (Err e) refused = sym (number_none field (λ n. refused (n.2, omega arith, omega (arith, digits_value_short own field 5 n.2 n.1))))

-- no number begins with a plus
pub plus_none : (field : List ℕ) → get_or field 0 0 ≡ 43 → number field ≡ None
plus_none field e = number_none field (λ n. not_in_digits own field 43 n.2 (λ h. omega arith) 0 (omega arith) e)

pub long_none : (field : List ℕ) → 5 < length field → number field ≡ None
long_none field h = number_none field (λ n. omega arith)

-- a coordinate's field, with and without a minus
pub coordinate_minus : (field digits : List ℕ) → field ≡ 45 ∷ digits → coordinate field ≡ signed_by (λ n. neg_ℤ (pos n)) (number digits)
coordinate_minus field digits e = ap coordinate e

pub coordinate_plain : (field : List ℕ) → ((digits : List ℕ) → field ≡ 45 ∷ digits → ⊥) → coordinate field ≡ signed_by pos (number field)
coordinate_plain [] plain = ap (signed_by pos) (sym (number_none [] (λ n. omega arith)))
coordinate_plain (b ∷ rest) plain =
    cond-false (eqb b 45) _ _ (ne_eqb b 45 (λ e. plain rest (ap (λ (x : ℕ). x ∷ rest) e)))
