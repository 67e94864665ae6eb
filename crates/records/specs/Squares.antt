-- Bounds of squares. Assumes nothing.
use Rattle.std.specs.Prelude.{ℕ, ◌+◌, ◌-◌, ◌*◌, ◌<◌, ◌≤◌}
use Rattle.std.proofs.Common.{mul-le-mul, arith, ⊎_elim}
use Rattle.std.proofs.lemmas.Bool.{cases_lt}

pub square_le : (a b : ℕ) → a ≤ b → a * a ≤ b * b
square_le a b h = mul-le-mul h h

-- a plane's length is at most 8,192, since its normal's square is at most three times 4,096 squared
pub length_le : (x y z n : ℕ) → x ≤ 4096 → y ≤ 4096 → z ≤ 4096 → (n - 1) * (n - 1) < x * x + y * y + z * z → n ≤ 8192
length_le x y z n hx hy hz h =
    ⊎_elim
    (λ (big : 8192 < n). let f : ⊥ = omega (arith, square_le 8192 (n - 1) (omega arith), square_le x 4096 hx, square_le y 4096 hy, square_le z 4096 hz) in absurd f)
    (λ (k : n ≤ 8192). k)
    (cases_lt 8192 n)
