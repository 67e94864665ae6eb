use Rattle.march.proofs.Axes.{coordinate}
use Rattle.march.specs.Motion.{route}
use Rattle.march.specs.Route.{last}
use Rattle.setpoints.specs.SetPoint.{set_point}
use Rattle.march.proofs.motion.Motion.set_point.Goals as goal

pub returns : goal.returns
unfolding set_point
returns c =
    let m = c.args.self.now in
    let i = c.args.i in
    let n = c.last-n.result in
    let N = last (route m) in
    let x = coordinate c.on_axis.result m.from.x m.to.x n N i (record { sfits = c.on_axis.type_inv }) m.from.x_in m.to.x_in c.on_axis.ensures.value c.last-n.ensures in
    let y = coordinate c.on_axis-2.result m.from.y m.to.y n N i (record { sfits = c.on_axis-2.type_inv }) m.from.y_in m.to.y_in c.on_axis-2.ensures.value c.last-n.ensures in
    let z = coordinate c.on_axis-3.result m.from.z m.to.z n N i (record { sfits = c.on_axis-3.type_inv }) m.from.z_in m.to.z_in c.on_axis-3.ensures.value c.last-n.ensures in
    λ j. record { x = x j; y = y j; z = z j }
