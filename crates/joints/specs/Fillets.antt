-- The fillet law of each kind of joint. Assumes nothing.
use Rattle.std.specs.Prelude.{◌≡◌, ℕ, suc, ◌+◌, ◌*◌, ◌<◌, ◌≤◌, refl}
use Rattle.std.proofs.Common.{suc-mul, mul-suc, mul_assoc, mul-add, mul-le-mul, mul-pos, arith, ap}
use Rattle.space.specs.Laws.{FilletLaw}
use Rattle.joints.specs.House.{rounded_fillet}
use Rattle.joints.specs.Soft.{soft_fillet}
use Rattle.joints.specs.Quotients.{quotient_law}

pub sharp_law : FilletLaw 0 (λ gap. 0)
sharp_law = record {
  limited = omega arith;
  ends = λ gap h. refl;
  half = λ gap. omega arith;
  falls = λ gap. omega arith;
  slowly = λ gap. omega arith;
}

square_suc : (m : ℕ) → suc m * suc m ≡ m * m + m + suc m
square_suc m = omega (arith, suc-mul m (suc m), mul-suc m m)

pub rounded_law : (k : ℕ) → 1 ≤ k → k ≤ 2048 → FilletLaw k (rounded_fillet k)
rounded_law k positive limited =
    let p : ℕ → ℕ = λ m. m * m in
    let half : (m : ℕ) → m ≤ k → 2 * p m ≤ 4 * k * k = λ m h. omega (arith, mul-le-mul h h, mul_assoc 4 k k) in
    let rises : (m : ℕ) → p m ≤ p (suc m) = λ m. omega (arith, square_suc m) in
    let slowly : (m : ℕ) → suc m ≤ k → p (suc m) ≤ p m + 4 * k = λ m h. omega (arith, square_suc m) in
    quotient_law k (4 * k) p (omega arith) limited refl half rises slowly

cube_suc : (m : ℕ) → suc m * suc m * suc m ≡ m * m * m + m * m + suc m * m + suc m * suc m
cube_suc m =
    let n = suc m in
    let e = ap (λ a. n * a) (suc-mul m m) in
    omega (arith, mul-suc (n * n) m, mul_assoc n n m, mul-add n (m * m) m, suc-mul m (m * m), mul_assoc m m m)

pub soft_divisor : (k : ℕ) → 1 ≤ k → 0 < 6 * k * k
soft_divisor k positive = omega (arith, mul-pos positive positive, mul_assoc 6 k k)

pub soft_law : (k : ℕ) → 1 ≤ k → k ≤ 2048 → FilletLaw k (soft_fillet k)
soft_law k positive limited =
    let p : ℕ → ℕ = λ m. m * m * m in
    let e = ap (λ a. a * k) (mul_assoc 6 k k) in
    let half : (m : ℕ) → m ≤ k → 2 * p m ≤ 6 * k * k * k = λ m h. omega (arith, mul-le-mul (mul-le-mul h h) h, mul_assoc 6 (k * k) k) in
    let rises : (m : ℕ) → p m ≤ p (suc m) = λ m. omega (arith, cube_suc m) in
    let slowly : (m : ℕ) → suc m ≤ k → p (suc m) ≤ p m + 6 * k * k = λ m h. omega (arith, cube_suc m, square_suc m, suc-mul m m, mul-le-mul h h, mul_assoc 6 k k) in
    quotient_law k (6 * k * k) p (soft_divisor k positive) limited refl half rises slowly
