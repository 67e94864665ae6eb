-- Roots keep the order of their squares. Assumes nothing.
use Rattle.std.proofs.Common.{◌≡◌, ℕ, suc, ◌*◌, ◌<◌, ◌≤◌, min, ap, ◌∙◌, ⊎_elim, arith}
use Rattle.std.proofs.lemmas.Bool.{cases_lt}
use Rattle.space.specs.Root.{root}
use Rattle.space.proofs.Roots.{root_is, square_lt_back}

pub root_mono : (m n : ℕ) → m ≤ n → root m ≤ root n
root_mono m n h =
    let a = root_is m in
    let b = root_is n in
    let lt = square_lt_back (root m) (suc (root n)) (omega arith) in
    omega arith

-- a number with a square of at most n is at most the root of n
pub root_least : (m n : ℕ) → m * m ≤ n → m ≤ root n
root_least m n h =
    let b = root_is n in
    let lt = square_lt_back m (suc (root n)) (omega arith) in
    omega arith

-- the root of a number below a square is below the square's root
pub root_below : (n m : ℕ) → n < m * m → root n < m
root_below n m h = let b = root_is n in square_lt_back (root n) m (omega arith)

pub root_min : (m n : ℕ) → root (min m n) ≡ min (root m) (root n)
root_min m n =
    ⊎_elim
    (λ lt. let e : min m n ≡ m = omega arith in let k = root_mono m n (omega arith) in ap root e ∙ omega arith)
    (λ le. let e : min m n ≡ n = omega arith in let k = root_mono n m le in ap root e ∙ omega arith)
    (cases_lt m n)
