use Rattle.std.proofs.Common.{◌≡◌, length, take, drop}
use Rattle.tree.specs.Rows.{whole_entries}
use Rattle.scenefile.proofs.whole.write_whole.Given as goal

abbrev pub invariant-loop-i : goal.invariant-loop-i
invariant-loop-i l =
    (take l.i l.list ≡ take l.i (whole_entries l.nodes))
    × (drop (length l.nodes) l.list ≡ drop (length l.nodes) l.initial.list)
