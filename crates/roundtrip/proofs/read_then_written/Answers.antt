use Rattle.roundtrip.proofs.Again.{read_then_written}
use Rattle.roundtrip.proofs.read_then_written.Goals as goal

pub returns : goal.returns
returns g c = read_then_written g.M.Solid.Record g.M.Joint.Record
