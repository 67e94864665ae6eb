-- What the value that a step goes by tells of the distance. Assumes nothing.
use Rattle.std.proofs.Common.{◌≡◌, ℕ, Bool, true, false, cond, ℤ, pos, negsuc, ◌≤ℤ◌, ◌<ℤ◌, refl, ◌∙◌, arith}
use lib.Signed.{le_z, le_z_yes}
use Rattle.space.specs.Bound as b
use Rattle.std.proofs.lemmas.Int.{ints}
use Rattle.march.specs.Step.{gone_by}
use Rattle.march.specs.Tells.{Tells}
use Rattle.march.specs.declared.reading.Reading.{Reading}
use Rattle.march.specs.declared.reading.Reading.TheVariants.{Exact, Bound}

-- not above the margin it is the distance, and above the margin it is not greater
pub record Told (margin : ℕ) (v d : ℤ) : Type 0 where
  pub low : v ≤ℤ pos margin → v ≡ d
  pub high : pos margin <ℤ v → v ≤ℤ d

exactly : (margin : ℕ) (v d : ℤ) → v ≡ d → Told margin v d
exactly margin v d e = record { low = λ _. e; high = λ _. omega (arith, ints) }

-- a test of two whole numbers
pub not_above : (a b : ℤ) → le_z a b ≡ true → a ≤ℤ b
not_above a b e = le_z_yes (rw e tt)

pub above : (a b : ℤ) → le_z a b ≡ false → b <ℤ a
above a b e = grind (arith, ints)

-- a bound above the margin is positive, so the distance is at least as great
bounded : (margin : ℕ) (c d : ℤ) → pos margin <ℤ c → b.Bound c d → c ≤ℤ d
bounded margin (pos n) d over is = let s = is.sign in let l = is.size in omega (arith, ints)
bounded margin (negsuc n) d over is = absurd (let f : ⊥ = omega (arith, ints) in f)

pub told : (margin : ℕ) (reading : Reading) (sure d v : ℤ) → Tells reading d → sure ≡ d → v ≡ gone_by margin reading sure → Told margin v d
told margin (Exact w) sure d v tells is by = exactly margin v d (by ∙ tells)
told margin (Bound c) sure d v tells is by = go (le_z c (pos margin)) refl by
  where
    go : (t : Bool) → le_z c (pos margin) ≡ t → v ≡ cond t sure c → Told margin v d
    go true e by' = exactly margin v d (by' ∙ is)
    go false e by' =
        let over = above c (pos margin) e in
        record { low = λ under. absurd (let f : ⊥ = omega (arith, ints) in f); high = λ _. let l = bounded margin c d over tells in omega (arith, ints) }
