-- Bytes as the elements of a list, and as the digits of a number. Assumes nothing.
use Rattle.std.specs.Prelude.{◌≡◌, ℕ, zero, suc, ◌+◌, ◌*◌, ◌/◌, ◌%◌, ◌<◌, List, [], ◌∷◌, length, ℤ, FitsSigned, slice_index, refl}
use Rattle.std.proofs.Common.{arith, ap, sym, ◌∙◌, of_z, to_z}
use Rattle.std.specs.Int.{Width}
use Rattle.std.proofs.lemmas.Int.{to_z-of_z}
use Rattle.records.specs.Elements.{elements}
use Rattle.records.specs.LittleEndian.{u16_le}

pub elements_tail : (i n x : ℕ) (xs : List ℕ) → elements (suc i) n (x ∷ xs) ≡ elements i n xs
elements_tail i zero x xs = refl
elements_tail i (suc n) x xs = ap (λ ys. slice_index xs i ∷ ys) (elements_tail (suc i) n x xs)

-- a list is all of its elements
pub elements_all : (n : ℕ) (xs : List ℕ) → length xs ≡ n → elements 0 n xs ≡ xs
elements_all zero [] e = refl
elements_all zero (x ∷ xs) e = absurd (let f : ⊥ = omega arith in f)
elements_all (suc n) [] e = absurd (let f : ⊥ = omega arith in f)
elements_all (suc n) (x ∷ xs) e =
    ap (λ ys. x ∷ ys) (elements_tail 0 n x xs ∙ elements_all n xs (omega arith))

pub u16_le_is : (a b : ℕ) → a < 256 → u16_le (a + b * 256) ≡ a ∷ b ∷ []
u16_le_is a b h =
    let p : (a + b * 256) % 256 ≡ a = omega arith in
    let q : (a + b * 256) / 256 ≡ b = omega arith in
    simp (p, q)

pub signed_same : (w : Width) (a b : ℤ) → FitsSigned w a → FitsSigned w b → of_z w a ≡ of_z w b → a ≡ b
signed_same w a b f g e = sym (to_z-of_z w a f) ∙ ap (to_z w) e ∙ to_z-of_z w b g

pub two_digits : (m n : ℕ) → m % 256 ≡ n % 256 → m / 256 ≡ n / 256 → m ≡ n
two_digits m n p q = omega arith

pub four_digits : (m n : ℕ) → m % 256 ≡ n % 256 → m / 256 % 256 ≡ n / 256 % 256 → m / 65536 % 256 ≡ n / 65536 % 256 → m / 16777216 ≡ n / 16777216 → m ≡ n
four_digits m n p q r s = omega arith
