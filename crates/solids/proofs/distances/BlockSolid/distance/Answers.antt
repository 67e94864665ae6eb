use Rattle.std.proofs.Common.{◌∙◌, arith}
use Rattle.solids.proofs.Casts.{excess_back, less, boxed}
use Rattle.solids.proofs.distances.BlockSolid.distance.Goals as goal

pub returns : goal.returns
returns c =
    let s = c.args.self.now in
    let p = c.args.p in
    let q = s.centre in
    rw c.from.ensures (
    less c.box_distance.result _ s.radius (
    c.box_distance.ensures.value
    ∙ boxed
    (excess_back p.x q.x c.excess-x.result s.half_x p.x_in q.x_in s.half_x_in c.excess-x.ensures)
    (excess_back p.y q.y c.excess-y.result s.half_y p.y_in q.y_in s.half_y_in c.excess-y.ensures)
    (excess_back p.z q.z c.excess-z.result s.half_z p.z_in q.z_in s.half_z_in c.excess-z.ensures)
    ) c.box_distance.ensures.bound (omega (arith, s.radius_in))
    )
