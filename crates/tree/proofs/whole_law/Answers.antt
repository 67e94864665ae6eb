use Rattle.tree.proofs.Wholes.{whole_law}
use Rattle.tree.proofs.whole_law.Goals as goal

pub returns : goal.returns
returns c = whole_law
