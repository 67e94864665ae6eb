-- What `fields` comes to. Assumes nothing.
use Rattle.std.proofs.Common.{◌≡◌, ℕ, suc, ◌<◌, false, eqb, ◌⊎◌, List, [], ◌∷◌, ◌++◌, length, get_or, Some, None, sym, refl, ap, ◌∙◌, inl, inr, ⊎_elim, arith, lit<, Bor}
use Rattle.clearance.specs.Lines.{onto_first, fields, is_digit, all_digits}
use Rattle.std.proofs.lemmas.Str.Pattern.{IsSplitOnceResult, split_parts}
use Rattle.std.proofs.lemmas.Bool.{cond-false, ne_eqb, cases_eq, and_right}

abbrev NoSpace : List ℕ → Type 0
NoSpace bs = (i : ℕ) → i < length bs → get_or bs i 0 ≡ 32 → ⊥

no_space_rest : (b : ℕ) (rest : List ℕ) → NoSpace (b ∷ rest) → NoSpace rest
no_space_rest b rest none i h e = none (suc i) (omega arith) e

pub fields_space : (rest : List ℕ) → fields (32 ∷ rest) ≡ [] ∷ fields rest
unfolding fields
fields_space rest = refl

pub fields_other : (b : ℕ) (rest : List ℕ) → (b ≡ 32 → ⊥) → fields (b ∷ rest) ≡ onto_first b (fields rest)
unfolding fields
fields_other b rest other = cond-false (eqb b 32) _ _ (ne_eqb b 32 other)

pub fields_none : fields [] ≡ [] ∷ []
unfolding fields
fields_none = refl

fields_one : (bs : List ℕ) → NoSpace bs → fields bs ≡ bs ∷ []
fields_one [] none = fields_none
fields_one (b ∷ rest) none =
    fields_other b rest (none 0 (omega arith)) ∙ ap (onto_first b) (fields_one rest (no_space_rest b rest none))

fields_split : (xs ys : List ℕ) → NoSpace xs → fields (xs ++ (32 ∷ ys)) ≡ xs ∷ fields ys
fields_split [] ys none = fields_space ys
fields_split (x ∷ xs) ys none =
    fields_other x (xs ++ (32 ∷ ys)) (none 0 (omega arith)) ∙ ap (onto_first x) (fields_split xs ys (no_space_rest x xs none))

-- what `split_once` makes of a text
pub one_field : (bs : List ℕ) → IsSplitOnceResult 32 bs None → fields bs ≡ bs ∷ []
one_field bs h = fields_one bs (split_parts 32 bs None h (lit< tt))

pub first_field : (bs : List ℕ) (x : Bor (List ℕ) × Bor (List ℕ)) → IsSplitOnceResult 32 bs (Some x) → fields bs ≡ x.0.now ∷ fields x.1.now
first_field bs x h =
    let parts = split_parts 32 bs (Some x) h (lit< tt) in
    ap fields parts.0 ∙ fields_split x.0.now x.1.now parts.1

-- a line with a space has two fields or more
abbrev pub Spaced : List ℕ → Type 0
Spaced bs = (f : List ℕ) × (g : List ℕ) × (more : List (List ℕ)) × (fields bs ≡ f ∷ (g ∷ more))

first_of : (fs : List (List ℕ)) → (fs ≡ [] → ⊥) → (f : List ℕ) × (more : List (List ℕ)) × (fs ≡ f ∷ more)
first_of [] some = absurd (some refl)
first_of (f ∷ more) some = (f, more, refl)

onto_some : (b : ℕ) (fs : List (List ℕ)) → onto_first b fs ≡ [] → ⊥
onto_some b [] e = let z : ◌≡◌ {A = ℕ} 0 1 = cc in omega arith
onto_some b (f ∷ more) e = let z : ◌≡◌ {A = ℕ} 0 1 = cc in omega arith

fields_some : (bs : List ℕ) → fields bs ≡ [] → ⊥
fields_some [] e = let n = fields_none in let z : ◌≡◌ {A = ℕ} 0 1 = cc in omega arith
fields_some (b ∷ rest) e =
    ⊎_elim
    (λ space. let n = ap (λ (x : ℕ). fields (x ∷ rest)) space ∙ fields_space rest in let z : ◌≡◌ {A = ℕ} 0 1 = cc in let f : ⊥ = omega arith in f)
    (λ other. onto_some b (fields rest) (sym (fields_other b rest other) ∙ e))
    (cases_eq b 32)

-- a text is one field, or has a space, which is no digit
pub one_or_spaced : (bs : List ℕ) → (fields bs ≡ bs ∷ []) ⊎ (Spaced bs × (all_digits bs ≡ false))
one_or_spaced [] = inl fields_none
one_or_spaced (b ∷ rest) =
    ⊎_elim
    (λ space.
    let fs = first_of (fields rest) (fields_some rest) in
    let e = ap (λ (x : ℕ). fields (x ∷ rest)) space ∙ fields_space rest ∙ ap (λ (x : List (List ℕ)). [] ∷ x) fs.2 in
    inr (([], fs.0, fs.1, e), ap (λ (x : ℕ). all_digits (x ∷ rest)) space))
    (λ other.
    let e = fields_other b rest other in
    ⊎_elim
    (λ one. inl (e ∙ ap (onto_first b) one))
    (λ more. inr ((b ∷ more.0.0, more.0.1, more.0.2, e ∙ ap (onto_first b) more.0.3), and_right (is_digit b) (all_digits rest) more.1))
    (one_or_spaced rest))
    (cases_eq b 32)
