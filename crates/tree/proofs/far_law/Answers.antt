use Rattle.tree.proofs.Fars.{far_law}
use Rattle.tree.proofs.far_law.Goals as goal

pub returns : goal.returns
returns c = far_law
