use Rattle.paths.proofs.Holding.{held_law}
use Rattle.paths.proofs.held_law.Goals as goal

pub returns : goal.returns
returns c = held_law
