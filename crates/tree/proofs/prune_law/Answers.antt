use Rattle.tree.proofs.Pruning.{prune_law}
use Rattle.tree.proofs.prune_law.Goals as goal

pub returns : goal.returns
returns c = prune_law
