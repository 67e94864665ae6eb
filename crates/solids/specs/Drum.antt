-- The distance of a drum: the greater of that to its side and that to its ends. Assumes nothing.
use Rattle.std.specs.Prelude.{ℕ, ◌+◌, ℤ, pos, ◌-ℤ◌, unsigned_abs}
use Rattle.std.specs.Int.{int_max}
use Rattle.space.specs.At.{at}
use Rattle.space.specs.Pt.{Pt, square}
use Rattle.space.specs.Root.{root}
use Rattle.solids.specs.declared.catalogue.Axis.{Axis}
use Rattle.solids.specs.declared.catalogue.Axis.TheVariants.{X, Y, Z}
use Rattle.solids.specs.declared.catalogue.Drum.{Drum}

-- how far two points are apart along an axis
abbrev pub along : Axis → Pt → Pt → ℕ
along X p q = unsigned_abs (p.x -ℤ q.x)
along Y p q = unsigned_abs (p.y -ℤ q.y)
along Z p q = unsigned_abs (p.z -ℤ q.z)

-- the squared distance of two points across an axis
abbrev pub across² : Axis → Pt → Pt → ℕ
across² X p q = square (p.y -ℤ q.y) + square (p.z -ℤ q.z)
across² Y p q = square (p.x -ℤ q.x) + square (p.z -ℤ q.z)
across² Z p q = square (p.x -ℤ q.x) + square (p.y -ℤ q.y)

unfoldable pub drum_distance : Drum → Pt → ℤ
drum_distance s p =
    int_max
    (pos (root (across² s.axis p (at s.centre))) -ℤ pos s.radius)
    (pos (along s.axis p (at s.centre)) -ℤ pos s.half_height)
