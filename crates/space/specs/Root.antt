-- The root of a number: the greatest whole number whose square is not above it. Assumes nothing.
use Rattle.std.specs.Prelude.{ℕ, zero, suc, ◌*◌, cond, nat_le}

-- from one number to the next the root rises by one where the next square is reached, else not at all
unfoldable pub root : ℕ → ℕ
root zero = 0
root (suc n) = let r = root n in cond (nat_le (suc r * suc r) (suc n)) (suc r) r
