-- What the definition of `root` comes to: the one number r with r² ≤ n < (r + 1)². Assumes nothing.
use Rattle.std.proofs.Common.{◌≡◌, ℕ, zero, suc, ◌*◌, ◌<◌, ◌≤◌, Bool, true, false, cond, leb, refl, ⊎_elim, suc-mul, mul-le-mul, mul-suc, arith}
use Rattle.std.proofs.lemmas.Bool.{leb-true, leb-false, cases_lt}
use Rattle.space.specs.Root.{root}

-- r is the root of n
abbrev pub Root : ℕ → ℕ → Type 0
Root n r = (r * r ≤ n) × (n < suc r * suc r)

-- squares rise with their roots
pub square_le : {a b : ℕ} → a ≤ b → a * a ≤ b * b
square_le h = mul-le-mul h h

pub square_lt_back : (a b : ℕ) → a * a < b * b → a < b
square_lt_back a b h = ⊎_elim (λ lt. lt) (λ le. let k = square_le le in omega arith) (cases_lt a b)

step : (n r : ℕ) (b : Bool) → leb (suc r * suc r) (suc n) ≡ b → Root n r → Root (suc n) (cond b (suc r) r)
step n r true e h =
    let reached = leb-true (suc r * suc r) (suc n) e in
    (reached, omega (arith, suc-mul (suc r) (suc (suc r)), mul-suc (suc r) (suc r)))
step n r false e h =
    let short = leb-false (suc r * suc r) (suc n) e in
    (omega arith, short)

pub root_is : (n : ℕ) → Root n (root n)
unfolding root
root_is zero = (omega arith, omega arith)
root_is (suc n) = step n (root n) _ refl (root_is n)

pub root_unique : (n r : ℕ) → Root n r → r ≡ root n
root_unique n r h =
    let s = root_is n in
    let up = square_lt_back r (suc (root n)) (omega arith) in
    let down = square_lt_back (root n) (suc r) (omega arith) in
    omega arith
