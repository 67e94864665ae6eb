-- Quotients by one divisor, and when they keep the fillet law. Assumes nothing.
use Rattle.std.specs.Prelude.{◌≡◌, ℕ, suc, ◌+◌, ◌-◌, ◌*◌, ◌/◌, ◌<◌, ◌≤◌}
use Rattle.std.proofs.Common.{le-div_iff_mul-le, div-lt_iff_lt-mul, div-mul-le_self, sub-eq-zero_of_le, suc-mul, mul_assoc, arith, ⊎_elim, ap, ◌∙◌}
use Rattle.std.proofs.Math.Nat.{div-le_of_le-mul, lt-div-mul-add, zero-div}
use Rattle.std.proofs.lemmas.Bool.{cases_lt}
use Rattle.space.specs.Laws.{FilletLaw}

-- a quotient rises with its dividend
pub div_rises : (q a b : ℕ) → 0 < q → a ≤ b → a / q ≤ b / q
div_rises q a b pos h = (le-div_iff_mul-le pos).1 (omega (arith, div-mul-le_self a q))

-- and by at most 1 where that rises by at most the divisor
pub div_slowly : (q a b : ℕ) → 0 < q → b ≤ a + q → b / q ≤ suc (a / q)
div_slowly q a b pos h =
    let n = a / q in
    let over = lt-div-mul-add {a = a} pos in
    let short : b < suc (suc n) * q = omega (arith, suc-mul (suc n) q, suc-mul n q) in
    let lt = (div-lt_iff_lt-mul {x = b} {y = suc (suc n)} pos).1 short in
    omega arith

pub div_half : (k q a : ℕ) → 0 < q → 2 * a ≤ q * k → 2 * (a / q) ≤ k
div_half k q a pos h =
    let low : 2 * (a / q) * q ≤ 2 * a = omega (arith, div-mul-le_self a q, mul_assoc 2 (a / q) q) in
    let up = (le-div_iff_mul-le {x = 2 * (a / q)} {y = 2 * a} pos).1 low in
    omega (arith, div-le_of_le-mul q h)

-- from a gap to the next, k - gap falls by 1, or is 0 at both
step : (k gap : ℕ) (P : ℕ → ℕ → Type 0) → P 0 0 → ((m : ℕ) → suc m ≤ k → P m (suc m)) → P (k - suc gap) (k - gap)
step k gap P past below =
    ⊎_elim
    (λ h. let now : k - gap ≡ suc (k - suc gap) = omega arith in rw now (below (k - suc gap) (omega arith)))
    (λ h. let now : k - gap ≡ 0 = omega arith in let next : k - suc gap ≡ 0 = omega arith in rw (now, next) past)
    (cases_lt gap k)

-- the fillet law of p (k - gap) / q
pub quotient_law
    : (k q : ℕ) (p : ℕ → ℕ)
    → 0 < q
    → k ≤ 2048
    → p 0 ≡ 0
    → ((m : ℕ) → m ≤ k → 2 * p m ≤ q * k)
    → ((m : ℕ) → p m ≤ p (suc m))
    → ((m : ℕ) → suc m ≤ k → p (suc m) ≤ p m + q)
    → FilletLaw k (λ gap. p (k - gap) / q)
quotient_law k q p pos limited none half rises slowly = record {
  limited = limited;
  ends = λ gap h. ap (λ m. p m / q) (sub-eq-zero_of_le h) ∙ ap (λ a. a / q) none ∙ zero-div q;
  half = λ gap. div_half k q (p (k - gap)) pos (half (k - gap) (omega arith));
  falls = λ gap. step k gap (λ m n. p m / q ≤ p n / q) (omega arith) (λ m h. div_rises q (p m) (p (suc m)) pos (rises m));
  slowly = λ gap. step k gap (λ m n. p n / q ≤ suc (p m / q)) (omega arith) (λ m h. div_slowly q (p m) (p (suc m)) pos (slowly m h));
}
