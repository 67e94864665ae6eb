use Rattle.std.proofs.Common.{◌≡◌, ◌+◌, take}
use Rattle.space.specs.At.{at}
use Rattle.space.specs.Root.{root}
use Rattle.solids.specs.Probed.{least, roots}
use Rattle.solids.proofs.distances.ProbedSolid.distance.Given as goal

-- the root of the least square so far is the least root so far
abbrev pub invariant-loop-centre : goal.invariant-loop-centre
invariant-loop-centre l = root l.near ≡ least (roots (at l.p) (take (l.centre-index + 1) l.self.centres))
