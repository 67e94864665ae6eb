use Rattle.std.proofs.Common.{◌≡◌, ℕ, ◌*◌, ◌<◌, drop}
use Rattle.scenefile.specs.Rows.{row, Nobodys}
use Rattle.scenefile.proofs.rows.first_bad.Given as goal

abbrev pub invariant-loop-i : goal.invariant-loop-i
invariant-loop-i g l = record {
  left : l.rest ≡ drop (g.R.Record.LENGTH * l.i) l.table;
  fine : (k : ℕ) → k < l.i → Nobodys g.R.Record.written (row l.table 0 g.R.Record.LENGTH k) → ⊥;
}
