-- The distance of a block: by its excess along each axis, less the radius. Assumes nothing.
use Rattle.std.specs.Prelude.{ℕ, ◌+◌, ◌*◌, cond, ℤ, pos, negsuc, ◌-ℤ◌, int_le, unsigned_abs}
use Rattle.std.specs.Int.{int_max}
use Rattle.space.specs.Pt.{Pt}
use Rattle.space.specs.Root.{root}
use Rattle.solids.specs.declared.catalogue.Block.{Block}

-- along one axis, the distance to the centre less the half extent: positive outside
abbrev pub excess : ℤ → ℤ → ℕ → ℤ
excess a centre half = pos (unsigned_abs (a -ℤ centre)) -ℤ pos half

-- the square of a number that is positive, else 0
abbrev pub positive_square : ℤ → ℕ
positive_square (pos n) = n * n
positive_square (negsuc n) = 0

abbrev pub greatest : ℤ → ℤ → ℤ → ℤ
greatest x y z = int_max (int_max x y) z

-- where no excess is positive the greatest, otherwise the root of the sum of the squares of the positive ones
unfoldable pub box_distance : ℤ → ℤ → ℤ → ℤ
box_distance x y z =
    cond (int_le (greatest x y z) (pos 0))
    (greatest x y z)
    (pos (root (positive_square x + positive_square y + positive_square z)))

abbrev pub block_distance : Block → Pt → ℤ
block_distance b p =
    let c = b.centre in
    box_distance
    (excess p.x c.x b.half_x)
    (excess p.y c.y b.half_y)
    (excess p.z c.z b.half_z)
    -ℤ pos b.radius
