use Rattle.tree.proofs.Values.{value_law}
use Rattle.tree.proofs.value_law.Goals as goal

pub returns : goal.returns
returns c = value_law
