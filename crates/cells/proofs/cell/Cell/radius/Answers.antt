use Rattle.cells.proofs.Levels.{radius_listed}
use Rattle.cells.proofs.cell.Cell.radius.Goals as goal

pub returns : goal.returns
returns c = rw c.from.ensures (radius_listed c.args.self.level)
