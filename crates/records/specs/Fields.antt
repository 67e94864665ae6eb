-- A record has the fields of one catalogue solid only. Assumes nothing.
use Rattle.std.specs.Prelude.{◌≡◌, ℕ, ◌*◌, ◌≤◌, ℤ, pos, FitsSigned, slice_index, unsigned_abs}
use Rattle.std.proofs.Common.{arith, ap, of_z}
use Rattle.std.specs.Int.{w16, w32}
use Rattle.std.proofs.lemmas.Int.{ints}
use Rattle.space.specs.declared.point.Point.{Point}
use Rattle.solids.specs.declared.catalogue.CatalogueSolid.{CatalogueSolid}
use Rattle.solids.specs.declared.catalogue.CatalogueSolid.TheVariants.{Ball, Block, Plane, Drum}
use Rattle.records.specs.Catalogue.{raw_of}
use Rattle.records.specs.Raw.{raw_record}
use Rattle.records.specs.declared.raw.RawSolid.{RawSolid}
use Rattle.records.specs.Digits.{signed_same, two_digits, four_digits}
use Rattle.records.specs.Points.{point_fits}
use Rattle.records.specs.Squares.{length_le}

-- the signed fields fit their types
pub record Fit (s : RawSolid) : Type 0 where
  pub x : FitsSigned w16 s.x
  pub y : FitsSigned w16 s.y
  pub z : FitsSigned w16 s.z
  pub d : FitsSigned w32 s.d

module _ (a b : RawSolid) (fa : Fit a) (fb : Fit b) (e : raw_record a ≡ raw_record b) where
  at : (i : ℕ) → slice_index (raw_record a) i ≡ slice_index (raw_record b) i
  at i = ap (λ xs. slice_index xs i) e

  pub raw_same : a ≡ b
  raw_same = λ i. record {
    kind = two_digits a.kind b.kind (at 0) (at 1) i;
    r = two_digits a.r b.r (at 2) (at 3) i;
    x = signed_same w16 a.x b.x fa.x fb.x (two_digits (of_z w16 a.x) (of_z w16 b.x) (at 4) (at 5)) i;
    y = signed_same w16 a.y b.y fa.y fb.y (two_digits (of_z w16 a.y) (of_z w16 b.y) (at 6) (at 7)) i;
    z = signed_same w16 a.z b.z fa.z fb.z (two_digits (of_z w16 a.z) (of_z w16 b.z) (at 8) (at 9)) i;
    h0 = two_digits a.h0 b.h0 (at 10) (at 11) i;
    h1 = two_digits a.h1 b.h1 (at 12) (at 13) i;
    h2 = two_digits a.h2 b.h2 (at 14) (at 15) i;
    d = signed_same w32 a.d b.d fa.d fb.d (four_digits (of_z w32 a.d) (of_z w32 b.d) (at 16) (at 17) (at 18) (at 19)) i;
  }

normal_fits : (a : ℤ) → unsigned_abs a ≤ 4096 → FitsSigned w16 a
normal_fits a h = omega (arith, ints)

offset_fits : (a : ℤ) (n : ℕ) → unsigned_abs a ≤ 16384 * n → n ≤ 8192 → FitsSigned w32 a
offset_fits a n h k = omega (arith, ints)

centred : (c : Point) (kind r h0 h1 h2 : ℕ) → Fit (record { kind = kind; r = r; x = c.x; y = c.y; z = c.z; h0 = h0; h1 = h1; h2 = h2; d = pos 0 })
centred c kind r h0 h1 h2 = record {
  x = (point_fits c).x;
  y = (point_fits c).y;
  z = (point_fits c).z;
  d = omega (arith, ints);
}

pub fit_of : (s : CatalogueSolid) → Fit (raw_of s)
fit_of (Ball s) = centred s.centre _ _ _ _ _
fit_of (Block s) = centred s.centre _ _ _ _ _
fit_of (Plane s) = record {
  x = normal_fits _ s.normal_x_in;
  y = normal_fits _ s.normal_y_in;
  z = normal_fits _ s.normal_z_in;
  d =
      offset_fits _ _
      s.offset_in
      (length_le _ _ _ _ s.normal_x_in s.normal_y_in s.normal_z_in s.least);
}
fit_of (Drum s) = centred s.centre _ _ _ _ _
