use Rattle.cells.proofs.Cubes.{cell_law}
use Rattle.cells.proofs.cells_law.Goals as goal

pub returns : goal.returns
returns c = cell_law
