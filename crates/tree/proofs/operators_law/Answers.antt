use Rattle.tree.proofs.Values.{operators_law}
use Rattle.tree.proofs.operators_law.Goals as goal

pub returns : goal.returns
returns c = operators_law
