use Rattle.tree.proofs.Lawfuls.{parts_lawful}
use Rattle.scene.proofs.lawful.parts_lawful.Goals as goal

pub returns : goal.returns
returns g c = parts_lawful g.S.Solid.dist g.J.Joint.radius g.J.Joint.fillet g.met.S.Solid.near g.met.S.Solid.ranged g.met.J.Joint.smooth
