use Rattle.roundtrip.proofs.Back.{written_then_read}
use Rattle.roundtrip.proofs.written_then_read.Goals as goal
use Rattle.std.proofs.Common.{◌∙◌}

pub returns : goal.returns
returns g c =
    let S = g.met.M.Solid.Record in
    let J = g.met.M.Joint.Record in
    written_then_read g.M.Solid.Record g.M.Joint.Record S.sized (λ x. J.sized x ∙ g.met.M.Make.joint_length) S.apart J.apart
