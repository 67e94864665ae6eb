-- Which call a line makes, from what is read of it. Assumes nothing.
use Rattle.std.proofs.Common.{◌≡◌, ℕ, Bool, true, false, cond, eqb, ◌⊎◌, List, [], ◌∷◌, ℤ, pos, Some, None, Option, sym, refl, ap, ◌∙◌, inl, inr, ⊎_elim, arith}
use Rattle.clearance.proofs.Fields.{fields_none, fields_other, Spaced, one_or_spaced}
use Rattle.clearance.proofs.Numbers.{number_none, coordinate_minus, coordinate_plain}
use Rattle.clearance.specs.Lines.{onto_first, fields, all_digits, number, signed_by, coordinate, distance_at, distance_call, call_named, call_from, call_of}
use Rattle.std.proofs.lemmas.Bool.{cond-false, ne_eqb, cases_eq, both_ways}

not_number : (bs : List ℕ) → all_digits bs ≡ false → number bs ≡ None
not_number bs e = number_none bs (λ n. both_ways _ e n.2)

-- a text with a space is no coordinate
one_or_none : (bs : List ℕ) → (fields bs ≡ bs ∷ []) ⊎ (Spaced bs × (coordinate bs ≡ None))
one_or_none [] = inl fields_none
one_or_none (b ∷ rest) = ⊎_elim inl (λ s. inr (s.0, by_first s (cases_eq b 45) (one_or_spaced rest))) (one_or_spaced (b ∷ rest))
  where
    by_first : Spaced (b ∷ rest) × (all_digits (b ∷ rest) ≡ false) → (b ≡ 45) ⊎ (b ≡ 45 → ⊥) → (fields rest ≡ rest ∷ []) ⊎ (Spaced rest × (all_digits rest ≡ false)) → coordinate (b ∷ rest) ≡ None
    by_first s (inl minus) (inl one) =
        let e = ap (λ (x : ℕ). fields (x ∷ rest)) minus ∙ fields_other 45 rest (λ h. omega arith) ∙ ap (onto_first 45) one in
        let f = s.0.3 in
        let z : ◌≡◌ {A = ℕ} 0 1 = cc in
        absurd (let f : ⊥ = omega arith in f)
    by_first s (inl minus) (inr more) =
        coordinate_minus (b ∷ rest) rest (ap (λ (x : ℕ). x ∷ rest) minus) ∙ ap (signed_by _) (not_number rest more.1)
    by_first s (inr plain) more =
        coordinate_plain (b ∷ rest) (λ digits e. plain (cc)) ∙ ap (signed_by pos) (not_number (b ∷ rest) s.1)

without_third : (x y : Option ℤ) → distance_at x y None ≡ None
without_third None y = refl
without_third (Some x) None = refl
without_third (Some x) (Some y) = refl

-- the third coordinate may be read with all that follows it
call_of_three : (x y z : List ℕ) → distance_call (x ∷ (y ∷ fields z)) ≡ distance_at (coordinate x) (coordinate y) (coordinate z)
call_of_three x y z =
    ⊎_elim
    (λ one. ap (λ (fs : List (List ℕ)). distance_call (x ∷ (y ∷ fs))) one)
    (λ more.
    ap (λ (fs : List (List ℕ)). distance_call (x ∷ (y ∷ fs))) more.0.3
    ∙ sym (without_third (coordinate x) (coordinate y))
    ∙ ap (distance_at (coordinate x) (coordinate y)) (sym more.1))
    (one_or_none z)

-- the call of three coordinates that were read one by one
pub call_of_text : (text x rest y z : List ℕ) (a b d : Option ℤ) → fields text ≡ x ∷ fields rest → fields rest ≡ y ∷ fields z → a ≡ coordinate x → b ≡ coordinate y → d ≡ coordinate z → distance_at a b d ≡ distance_call (fields text)
call_of_text text x rest y z a b d first second ea eb ed =
    (λ i. distance_at (ea i) (eb i) (ed i))
    ∙ sym (ap distance_call (first ∙ ap (λ (fs : List (List ℕ)). x ∷ fs) second) ∙ call_of_three x y z)

pub no_third : (text x rest y z : List ℕ) → fields text ≡ x ∷ fields rest → fields rest ≡ y ∷ fields z → None ≡ coordinate z → None ≡ distance_call (fields text)
no_third text x rest y z first second ed =
    sym (without_third (coordinate x) (coordinate y)) ∙ call_of_text text x rest y z (coordinate x) (coordinate y) None first second refl refl ed

-- a line that is one field is no call
pub lone_field : (line : List ℕ) → fields line ≡ line ∷ [] → call_of line ≡ None
lone_field [] e = ap call_from e
lone_field (b ∷ []) e = ap call_from e ∙ same (eqb b 115)
  where
    same : (t : Bool) → cond t (distance_call []) None ≡ None
    same true = refl
    same false = refl
lone_field (b ∷ (d ∷ rest)) e = ap call_from e

-- a line of more fields is a call where the first is `s`
pub s_call : (line name rest : List ℕ) → fields line ≡ name ∷ fields rest → name ≡ 115 ∷ [] → call_of line ≡ distance_call (fields rest)
s_call line name rest e s = ap call_from (e ∙ ap (λ (x : List ℕ). x ∷ fields rest) s)

pub other_call : (line name rest : List ℕ) → fields line ≡ name ∷ fields rest → (name ≡ 115 ∷ [] → ⊥) → call_of line ≡ None
other_call line name rest e other = ap call_from e ∙ unnamed name other
  where
    unnamed : (name : List ℕ) → (name ≡ 115 ∷ [] → ⊥) → call_named name (fields rest) ≡ None
    unnamed [] other = refl
    unnamed (b ∷ []) other = cond-false (eqb b 115) _ _ (ne_eqb b 115 (λ h. other (ap (λ (x : ℕ). x ∷ []) h)))
    unnamed (b ∷ (d ∷ more)) other = refl
