-- The distance of a plane: the product of the normal and the point, less the offset, divided by the length and rounded
-- down. Assumes nothing.
use Rattle.std.specs.Prelude.{ℤ, ◌+ℤ◌, ◌-ℤ◌, ◌*ℤ◌}
use Rattle.space.specs.FloorDiv.{floor_div}
use Rattle.space.specs.Pt.{Pt}
use Rattle.solids.specs.declared.catalogue.Plane.{Plane}

-- the product of the normal and a point
abbrev pub along_normal : Plane → Pt → ℤ
along_normal s p = s.normal_x *ℤ p.x +ℤ s.normal_y *ℤ p.y +ℤ s.normal_z *ℤ p.z

unfoldable pub plane_distance : Plane → Pt → ℤ
plane_distance s p = floor_div (along_normal s p -ℤ s.offset) s.length
