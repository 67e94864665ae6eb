-- A record is that of one point only. Assumes nothing.
use Rattle.std.specs.Prelude.{◌≡◌, ℕ, ℤ, FitsSigned, slice_index}
use Rattle.std.proofs.Common.{arith, ap, of_z}
use Rattle.std.specs.Int.{w16}
use Rattle.std.proofs.lemmas.Int.{ints}
use Rattle.space.specs.At.{at}
use Rattle.space.specs.Pt.{Pt, InRange}
use Rattle.space.specs.declared.point.Point.{Point}
use Rattle.records.specs.Point.{pt_record}
use Rattle.records.specs.Digits.{signed_same, two_digits}

-- the coordinates fit their type
pub record PtFit (p : Pt) : Type 0 where
  pub x : FitsSigned w16 p.x
  pub y : FitsSigned w16 p.y
  pub z : FitsSigned w16 p.z

in_range_fits : (a : ℤ) → InRange a → FitsSigned w16 a
in_range_fits a h = omega (arith, ints)

pub point_fits : (p : Point) → PtFit (at p)
point_fits p = record {
  x = in_range_fits _ p.x_in;
  y = in_range_fits _ p.y_in;
  z = in_range_fits _ p.z_in;
}

module _ (a b : Pt) (fa : PtFit a) (fb : PtFit b) (e : pt_record a ≡ pt_record b) where
  byte : (i : ℕ) → slice_index (pt_record a) i ≡ slice_index (pt_record b) i
  byte i = ap (λ xs. slice_index xs i) e

  pub pt_same : a ≡ b
  pt_same = λ i. record {
    x = signed_same w16 a.x b.x fa.x fb.x (two_digits (of_z w16 a.x) (of_z w16 b.x) (byte 0) (byte 1)) i;
    y = signed_same w16 a.y b.y fa.y fb.y (two_digits (of_z w16 a.y) (of_z w16 b.y) (byte 2) (byte 3)) i;
    z = signed_same w16 a.z b.z fa.z fb.z (two_digits (of_z w16 a.z) (of_z w16 b.z) (byte 4) (byte 5)) i;
  }
