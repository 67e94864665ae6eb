use Rattle.std.proofs.Common.{length}
use Rattle.vectors.proofs.path_cases.+follow.Given as goal

abbrev pub decreases-follow : goal.decreases-follow
decreases-follow g l = length l.path.now
