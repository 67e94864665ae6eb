use Rattle.std.proofs.Common.{◌≡◌, ◌+◌, ◌*◌, drop}
use Rattle.std.specs.Iterator.Adapters.{enumerate_count, enumerate_source}
use Rattle.std.specs.Slice.Iter.{chunks_exact_rest, chunks_exact_size}
use Rattle.records.specs.Centres.{Filled}
use Rattle.records.proofs.probed.ProbedRecord.read.Given as goal

abbrev pub invariant-loop-i : goal.invariant-loop-i
invariant-loop-i l = record {
  can_next : (goal.iterator-loop-i).can_next l.i-iterator;
  finite : (goal.iterator-loop-i).is_finite l.i-iterator;
  six : chunks_exact_size (enumerate_source l.i-iterator) ≡ 6;
  rest : chunks_exact_rest (enumerate_source l.i-iterator) ≡ drop (4 + 6 * enumerate_count l.i-iterator) l.bytes;
  filled : Filled l.bytes (enumerate_count l.i-iterator) l.centres;
}
