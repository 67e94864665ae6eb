use Rattle.std.proofs.Common.{◌++◌, map, take}
use Rattle.roundtrip.specs.Bytes.{concat}
use Rattle.writer.proofs.Laying.{Laid}
use Rattle.writer.proofs.rows.write_rows.Given as goal

abbrev pub invariant-loop-i : goal.invariant-loop-i
invariant-loop-i g l = Laid (take l.start l.initial.out ++ concat (map g.R.Record.written (take l.i l.rows))) l.initial.out l.out
