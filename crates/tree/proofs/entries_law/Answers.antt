use Rattle.tree.proofs.Wholes.{entries_law}
use Rattle.tree.proofs.entries_law.Goals as goal

pub returns : goal.returns
returns c = entries_law
