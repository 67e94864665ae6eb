use Rattle.std.proofs.Common.{ap}
use Rattle.records.specs.Catalogue.{centre_field}
use Rattle.records.proofs.catalogue.read_drum.Goals as goal

pub returns-in_err-centre : goal.returns-in_err-centre
returns-in_err-centre c =
    rw c.from_residual-in_err-centre.ensures (λ s e. c.in_err-centre.ensures s.centre (ap centre_field e))
