-- The name that begins a line, by its first character, as `chars` gives it. Assumes nothing.
use Rattle.std.proofs.Common.{◌≡◌, ℕ, ◌<◌, List, [], ◌∷◌, ◌++◌, length, get_or, sym, refl, ap, ◌∙◌, arith}
use lib.Utf8.{encode}
use Rattle.std.proofs.lemmas.Str.Ascii.{encode_ascii}
use Rattle.std.proofs.lemmas.Str.{inside_one, length-encode}
use Rattle.std.proofs.lemmas.Bool.Decides.{nat_tests}

one_more : (b : ℕ) (rest : List ℕ) → length (b ∷ rest) ≡ 1 → b ∷ rest ≡ b ∷ []
one_more b [] one = refl
one_more b (d ∷ rest) one = absurd (let f : ⊥ = omega arith in f)

pub lone_letter : (name whole rest : List ℕ) (c : ℕ) → whole ≡ name → whole ≡ encode c ++ rest → c ≡ 115 → length name ≡ 1 → name ≡ 115 ∷ []
lone_letter name whole rest c same e s one =
    let begins : name ≡ 115 ∷ rest = sym same ∙ e ∙ ap (λ (x : ℕ). encode x ++ rest) s ∙ ap (λ (x : List ℕ). x ++ rest) (encode_ascii 115 (omega arith)) in
    begins ∙ one_more 115 rest (sym (ap length begins) ∙ one)

wide : (c : ℕ) → 0 < length (encode c)
wide c = rw length-encode (grind (arith, nat_tests))

pub other_letter : (name whole rest : List ℕ) (c : ℕ) → whole ≡ name → whole ≡ encode c ++ rest → (c ≡ 115 → ⊥) → name ≡ 115 ∷ [] → ⊥
other_letter name whole rest c same e other s =
    let first : get_or name 0 0 ≡ 115 = ap (λ (x : List ℕ). get_or x 0 0) s in
    other (inside_one c rest name 0 (sym same ∙ e) (wide c) (omega arith) ∙ first)
