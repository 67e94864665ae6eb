-- The laws of a plane's distance. Assumes nothing.
use Rattle.std.specs.Prelude.{◌≡◌, ℕ, ◌+◌, ◌*◌, ◌/◌, ◌≤◌, ℤ, pos, ◌+ℤ◌, ◌-ℤ◌, ◌*ℤ◌, unsigned_abs}
use Rattle.std.proofs.Math.Nat.{zero-div}
use Rattle.std.proofs.Common.{arith}
use Rattle.std.proofs.lemmas.Int.{ints}
use Rattle.space.specs.FloorDiv.{floor_div}
use Rattle.space.specs.Laws.{DistanceLaw, DistanceRange}
use Rattle.space.proofs.FloorDivs.{floor_near}
use Rattle.space.proofs.Products.{product_abs, distributes}
use Rattle.space.proofs.Roots.{square_le}
use Rattle.space.proofs.Triangles.{squares, cauchy}
use Rattle.solids.specs.Plane.{along_normal, plane_distance}
use Rattle.solids.specs.declared.catalogue.Plane.{Plane}
use Rattle.solids.specs.Bounds.{reach, length_pos}

-- two sums of three products, less one offset
gathered : (a b c x y z u v w o : ℤ) → a -ℤ x ≡ u → b -ℤ y ≡ v → c -ℤ z ≡ w → unsigned_abs ((a +ℤ b +ℤ c -ℤ o) -ℤ (x +ℤ y +ℤ z -ℤ o)) ≤ unsigned_abs u + unsigned_abs v + unsigned_abs w
gathered a b c x y z u v w o p q r = omega (arith, ints)

pub near_plane : (s : Plane) → DistanceLaw (plane_distance s)
unfolding plane_distance
near_plane s p q r i j h =
    let n₁ = s.normal_x in
    let n₂ = s.normal_y in
    let n₃ = s.normal_z in
    let d₁ = p.x -ℤ q.x in
    let d₂ = p.y -ℤ q.y in
    let d₃ = p.z -ℤ q.z in
    let g = gathered (n₁ *ℤ p.x) (n₂ *ℤ p.y) (n₃ *ℤ p.z) (n₁ *ℤ q.x) (n₂ *ℤ q.y) (n₃ *ℤ q.z) (n₁ *ℤ d₁) (n₂ *ℤ d₂) (n₃ *ℤ d₃) s.offset
    (distributes n₁ p.x q.x) (distributes n₂ p.y q.y) (distributes n₃ p.z q.z) in
    let c = cauchy (unsigned_abs n₁) (unsigned_abs n₂) (unsigned_abs n₃) (unsigned_abs d₁) (unsigned_abs d₂) (unsigned_abs d₃) s.length r s.long_enough h in
    floor_near (along_normal s p -ℤ s.offset) (along_normal s q -ℤ s.offset) s.length r (length_pos s)
    (omega (arith, g, c, product_abs n₁ d₁, product_abs n₂ d₂, product_abs n₃ d₃))

-- a sum of three products, less an offset, is near 0
spread : (a b c o : ℤ) → unsigned_abs ((a +ℤ b +ℤ c -ℤ o) -ℤ pos 0) ≤ unsigned_abs a + unsigned_abs b + unsigned_abs c + unsigned_abs o
spread a b c o = omega (arith, ints)

-- no point is more than 14,189 from the origin
pub ranged_plane : (s : Plane) → DistanceRange (plane_distance s)
unfolding plane_distance
ranged_plane s p i =
    let n₁ = s.normal_x in
    let n₂ = s.normal_y in
    let n₃ = s.normal_z in
    let g = spread (n₁ *ℤ p.x) (n₂ *ℤ p.y) (n₃ *ℤ p.z) s.offset in
    let inside : squares (unsigned_abs p.x) (unsigned_abs p.y) (unsigned_abs p.z) ≤ 14189 * 14189 =
    omega (arith, square_le (reach p.x i.x_in), square_le (reach p.y i.y_in), square_le (reach p.z i.z_in)) in
    let c = cauchy (unsigned_abs n₁) (unsigned_abs n₂) (unsigned_abs n₃) (unsigned_abs p.x) (unsigned_abs p.y) (unsigned_abs p.z) s.length 14189 s.long_enough inside in
    let f = floor_near (along_normal s p -ℤ s.offset) (pos 0) s.length 30573 (length_pos s)
    (omega (arith, g, c, s.offset_in, product_abs n₁ p.x, product_abs n₂ p.y, product_abs n₃ p.z)) in
    settled (floor_div (along_normal s p -ℤ s.offset) s.length) (0 / s.length) (zero-div s.length) f
  where
    settled : (f : ℤ) (t : ℕ) → t ≡ 0 → unsigned_abs (f -ℤ pos t) ≤ 30573 → unsigned_abs f ≤ 32767
    settled f t e l = omega (arith, ints)
