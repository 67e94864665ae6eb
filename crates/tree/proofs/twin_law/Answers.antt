use Rattle.tree.proofs.Twinning.{twin_law}
use Rattle.tree.proofs.twin_law.Goals as goal

pub returns : goal.returns
returns c = twin_law
