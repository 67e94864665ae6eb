use Rattle.paths.proofs.Gaps.{twin_gaps}
use Rattle.paths.proofs.twins_gaps.Goals as goal

pub returns : goal.returns
returns c = twin_gaps
