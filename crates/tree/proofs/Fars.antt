-- The constant of a far cell. Assumes nothing.
use Rattle.std.proofs.Common.{ℕ, zero, suc, ◌-◌, ◌*◌, ◌<◌, ◌≤◌, ℤ, pos, negsuc, ◌-ℤ◌, neg_ℤ, nat_abs, refl, mul-le-mul_right, arith}
use Rattle.space.specs.Bound.{Bound}
use Rattle.std.proofs.lemmas.Int.{ints}
use Rattle.tree.specs.Far.{far_constant, FarLaw}
use Rattle.tree.specs.Tree.{value}
use Rattle.tree.proofs.Values.{value_law}

-- twice R is not above C times R
twice : (C R n : ℕ) → 2 ≤ C → C * R < n → 2 * R < n
twice C R n two far = let h = mul-le-mul_right R two in omega arith

-- below 0
below : (n v : ℕ) → 0 < n → n ≤ suc v → Bound (neg_ℤ (pos n)) (negsuc v)
below zero v some few = absurd (let f : ⊥ = omega arith in f)
below (suc m) v some few = record { not_zero = omega arith; sign = refl; size = omega arith }

-- the constant c under d's sign, and the value v within R of d
bound : (d v : ℤ) (R : ℕ) → 2 * R < nat_abs d → nat_abs (d -ℤ v) ≤ R → Bound (far_constant R d) v
bound (pos d) (pos v) R far near = record { not_zero = omega (arith, ints); sign = refl; size = omega (arith, ints) }
bound (pos d) (negsuc v) R far near = absurd (let f : ⊥ = omega (arith, ints) in f)
bound (negsuc d) (pos v) R far near = absurd (let f : ⊥ = omega (arith, ints) in f)
bound (negsuc d) (negsuc v) R far near = below (suc d - R) v (omega (arith, ints)) (omega (arith, ints))

pub far_law : FarLaw
far_law P law t centre p C R two c_in p_in close far =
    bound (value P t centre) (value P t p) R (twice C R (nat_abs (value P t centre)) two far) (value_law P law t centre p R c_in p_in close)
