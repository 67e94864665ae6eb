-- The distance of a ball: the root of the squared distance to the centre, less the radius. Assumes nothing.
use Rattle.std.specs.Prelude.{ℤ, pos, ◌-ℤ◌}
use Rattle.space.specs.At.{at}
use Rattle.space.specs.Pt.{Pt, apart²}
use Rattle.space.specs.Root.{root}
use Rattle.solids.specs.declared.catalogue.Ball.{Ball}

abbrev pub ball_distance : Ball → Pt → ℤ
ball_distance b p = pos (root (apart² p (at b.centre))) -ℤ pos b.radius
