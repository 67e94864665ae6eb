use Rattle.std.proofs.Common.{ap}
use Rattle.records.specs.Catalogue.{centre_field}
use Rattle.records.proofs.catalogue.read_ball.Goals as goal

pub returns-in-err-centre : goal.returns-in-err-centre
returns-in-err-centre c =
    rw c.from-residual.ensures (λ s e. c.in-err-centre.ensures s.centre (ap centre_field e))
