-- The set points, axis by axis. Assumes nothing.
use Rattle.std.proofs.Common.{◌≡◌, ℕ, ◌+◌, ◌*◌, ◌≤◌, ◌-ℤ◌, nat_abs, arith}
use native.Mathlib.Nat.{mul-mul-mul_comm}
use Rattle.space.specs.Pt.{Pt, InSpace, apart²}
use Rattle.space.proofs.Roots.{square_le}
use Rattle.setpoints.specs.Law.{Close, SetPoints, SetPointsLaw}
use Rattle.setpoints.specs.SetPoint.{reach, set_point}
use Rattle.setpoints.proofs.Axes.{axis_first, axis_last, axis_in, axis_close}

-- points that differ by at most j along each axis are at most 2j apart
close_near : (j : ℕ) (p q : Pt) → Close j p q → apart² p q ≤ 2 * j * (2 * j)
close_near j p q c = omega (arith, square_le c.along_x, square_le c.along_y, square_le c.along_z, mul-mul-mul_comm 2 j 2 j)

module _ (a b : Pt) (a_in : InSpace a) (b_in : InSpace b) where
  pub set_points : SetPoints a b
  unfolding set_point
  set_points =
      let x_few : nat_abs (b.x -ℤ a.x) ≤ reach a b = omega arith in
      let y_few : nat_abs (b.y -ℤ a.y) ≤ reach a b = omega arith in
      let z_few : nat_abs (b.z -ℤ a.z) ≤ reach a b = omega arith in
      let close : (i j : ℕ) → Close j (set_point a b i) (set_point a b (i + j)) = λ i j. record {
        along_x = axis_close (reach a b) a.x b.x i j x_few;
        along_y = axis_close (reach a b) a.y b.y i j y_few;
        along_z = axis_close (reach a b) a.z b.z i j z_few;
      } in
      record {
        first = same (axis_first (reach a b) a.x b.x) (axis_first (reach a b) a.y b.y) (axis_first (reach a b) a.z b.z);
        last = same (axis_last (reach a b) a.x b.x x_few) (axis_last (reach a b) a.y b.y y_few) (axis_last (reach a b) a.z b.z z_few);
        inside = λ i few. record {
          x_in = axis_in (reach a b) a.x b.x i a_in.x_in b_in.x_in few;
          y_in = axis_in (reach a b) a.y b.y i a_in.y_in b_in.y_in few;
          z_in = axis_in (reach a b) a.z b.z i a_in.z_in b_in.z_in few;
        };
        close = λ i j few. close i j;
        near = λ i j few. close_near j (set_point a b i) (set_point a b (i + j)) (close i j);
      }
    where
      same : {p q : Pt} → p.x ≡ q.x → p.y ≡ q.y → p.z ≡ q.z → p ≡ q
      same e f g = λ i. record { x = e i; y = f i; z = g i }

pub set_points_law : SetPointsLaw
set_points_law a b a_in b_in = set_points a b a_in b_in
