use Rattle.std.proofs.Common.{◌≡◌, ◌*◌, map, take, drop}
use Rattle.scenefile.specs.Rows.{rows}
use Rattle.scenefile.proofs.rows.fill.Given as goal

abbrev pub invariant-loop-place : goal.invariant-loop-place
invariant-loop-place g l = record {
  left : l.rest ≡ drop (g.R.Record.LENGTH * l.place-index) l.table;
  read : map g.R.Record.written (take l.place-index l.place-items) ≡ rows l.table 0 g.R.Record.LENGTH l.place-index;
}
