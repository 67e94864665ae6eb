use Rattle.cells.proofs.Levels.{side_listed}
use Rattle.cells.proofs.cell.Cell.side.Goals as goal

pub returns : goal.returns
returns c = rw c.from.ensures (side_listed c.args.self.level)
