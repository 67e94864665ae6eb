-- Bounds of the numbers that the distances are made of. Assumes nothing.
use Rattle.std.specs.Prelude.{ℕ, zero, suc, ◌-◌, ◌*◌, ◌^◌, ◌<◌, ◌≤◌, ℤ, ◌-ℤ◌, ◌*ℤ◌, unsigned_abs}
use Rattle.std.proofs.Common.{mul-le-mul, arith}
use Rattle.std.proofs.lemmas.Int.{ints}
use Rattle.space.specs.Pt.{InRange}
use Rattle.space.specs.Root.{root}
use Rattle.space.proofs.Products.{product_abs}
use Rattle.space.proofs.RootOrder.{root_below}
use Rattle.space.proofs.Roots.{square_le, square_lt_back}
use Rattle.solids.specs.declared.catalogue.Plane.{Plane}

pub root_small : (n : ℕ) → n < 2 ^ 32 → root n ≤ 65535
root_small n h = let lt = root_below n 65536 (omega arith) in omega arith

-- two coordinates
pub differ : (a b : ℤ) → InRange a → InRange b → unsigned_abs (a -ℤ b) ≤ 16383
differ a b h k = omega (arith, ints)

pub reach : (a : ℤ) → InRange a → unsigned_abs a ≤ 8192
reach a h = omega (arith, ints)

pub product_small : (n a : ℤ) → unsigned_abs n ≤ 4096 → unsigned_abs a ≤ 8192 → unsigned_abs (n *ℤ a) ≤ 33554432
product_small n a h k = rw (product_abs n a) (mul-le-mul h k)

-- a plane's length
module _ (s : Plane) where
  pub length_pos : 0 < s.length
  length_pos = elim_zero s.length s.not_zero s.long_enough
    where
      elim_zero : {n : ℕ} (m : ℕ) → 0 < n → n ≤ m * m → 0 < m
      elim_zero zero h k = omega arith
      elim_zero (suc m) h k = omega arith

  pub length_short : s.length < 65536
  length_short =
      let x = square_le s.normal_x_in in
      let y = square_le s.normal_y_in in
      let z = square_le s.normal_z_in in
      let k = square_lt_back (s.length - 1) 65535 (omega (arith, s.least)) in
      omega arith
