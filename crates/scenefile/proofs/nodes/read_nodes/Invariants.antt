use Rattle.std.proofs.Common.{◌≡◌, ℕ, ◌*◌, ◌<◌, ◌≤◌, true, map, length, take, drop}
use Rattle.std.specs.Iterator.Adapters.{enumerate_count, enumerate_source}
use Rattle.std.specs.Slice.Iter.{chunks_exact_rest, chunks_exact_size}
use Rattle.records.specs.Node.{node_record}
use Rattle.scene.specs.Lists.{all_named}
use Rattle.scenefile.specs.Checks.{NoNode}
use Rattle.scenefile.specs.Rows.{row, rows}
use Rattle.tree.specs.Rows.{node_symbol}
use Rattle.scenefile.proofs.nodes.read_nodes.Given as goal

abbrev pub invariant-loop-i : goal.invariant-loop-i
invariant-loop-i l = record {
  can_next : (goal.iterator-loop-i).can_next l.i-iterator;
  finite : (goal.iterator-loop-i).is_finite l.i-iterator;
  four : chunks_exact_size (enumerate_source l.i-iterator) ≡ 4;
  left : chunks_exact_rest (enumerate_source l.i-iterator) ≡ drop (4 * enumerate_count l.i-iterator) l.table;
  within : enumerate_count l.i-iterator ≤ length l.into;
  read : map node_record (take (enumerate_count l.i-iterator) l.into) ≡ rows l.table 0 4 (enumerate_count l.i-iterator);
  named : all_named l.solids l.joints (map node_symbol (take (enumerate_count l.i-iterator) l.into)) ≡ true;
  fine : (k : ℕ) → k < enumerate_count l.i-iterator → NoNode l.solids l.joints (row l.table 0 4 k) → ⊥;
}
