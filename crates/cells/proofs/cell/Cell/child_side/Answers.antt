use Rattle.std.proofs.Common.{◌+◌, ap, ◌∙◌, add-one}
use Rattle.cells.specs.Cells.{side}
use Rattle.cells.proofs.Levels.{side_listed}
use Rattle.cells.proofs.cell.Cell.child_side.Goals as goal

pub returns : goal.returns
returns c = rw c.from.ensures (side_listed (c.args.self.level + 1) ∙ ap side (add-one c.args.self.level))
