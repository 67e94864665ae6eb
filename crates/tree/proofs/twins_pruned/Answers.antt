use Rattle.tree.proofs.Twinning.{twins_pruned}
use Rattle.tree.proofs.twins_pruned.Goals as goal

pub returns : goal.returns
returns c = twins_pruned
