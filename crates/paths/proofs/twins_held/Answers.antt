use Rattle.paths.proofs.Alikes.{twins_held}
use Rattle.paths.proofs.twins_held.Goals as goal

pub returns : goal.returns
returns c = twins_held
