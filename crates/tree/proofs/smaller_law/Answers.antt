use Rattle.tree.proofs.Smaller.{smaller_law}
use Rattle.tree.proofs.smaller_law.Goals as goal

pub returns : goal.returns
returns c = smaller_law
