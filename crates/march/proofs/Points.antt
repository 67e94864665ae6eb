-- A point is in space. Assumes nothing.
use Rattle.space.specs.At.{at}
use Rattle.space.specs.Pt.{InSpace}
use Rattle.space.specs.declared.point.Point.{Point}

pub in_space : (p : Point) → InSpace (at p)
in_space p = record { x_in = p.x_in; y_in = p.y_in; z_in = p.z_in }
