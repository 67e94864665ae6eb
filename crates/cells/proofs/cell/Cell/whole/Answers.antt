use Rattle.cells.proofs.Cubes.{whole_inside}
use Rattle.cells.proofs.cell.Cell.whole.Goals as goal

pub invariant_of-result-2 : goal.invariant_of-result-2
invariant_of-result-2 c = let w = whole_inside in record { level_in = w.level_in; x_in = w.x_in; y_in = w.y_in; z_in = w.z_in }
