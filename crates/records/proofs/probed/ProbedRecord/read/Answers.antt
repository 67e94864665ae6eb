use Rattle.std.proofs.Common.{◌≡◌, ◌<◌, length, sym, subst, ◌∙◌, ap, rules}
use Rattle.std.specs.Iterator.Adapters.{enumerate_count, enumerate_source}
use Rattle.std.specs.Slice.Iter.{chunks_exact_rest}
use Rattle.std.proofs.lemmas.Bool.{both_ways}
use Rattle.solids.specs.Unused.{all_origin}
use Rattle.records.specs.Elements.{elements}
use Rattle.records.specs.LittleEndian.{u16_le}
use Rattle.records.specs.Centres.{filled_more, filled_all, some_centre}
use Rattle.records.proofs.Pieces.{piece_of, no_piece, unused_is, unused_are}
use Rattle.records.proofs.probed.ProbedRecord.read.Goals as goal

pub returns-in_err-centres : goal.returns-in_err-centres
returns-in_err-centres c =
    let inv = c.loop-i.invariant in
    let steps = c.in-Some.ensures.steps in
    let long : length c.args.bytes.now ≡ 52 = search rules in
    let piece = piece_of c.args.bytes.now _ c.in-Some.place.now _ (enumerate_count c.loop-i.i-iterator) long inv.rest steps.0.1.0 (steps.0.1.1 ∙ inv.six) in
    rw c.from_residual.ensures
    (λ s e. some_centre c.args.bytes.now s e _ piece.below (λ p q. c.in_err-centres.ensures p (q ∙ sym piece.here)))

pub loop-i-preserved : goal.loop-i-preserved
loop-i-preserved c =
    let inv = c.loop-i.invariant in
    let steps = c.in-Some.ensures.steps in
    let long : length c.args.bytes.now ≡ 52 = search rules in
    let piece = piece_of c.args.bytes.now _ c.in-Some.place.now _ (enumerate_count c.loop-i.i-iterator) long inv.rest steps.0.1.0 (steps.0.1.1 ∙ inv.six) in
    let filled = filled_more c.args.bytes.now (enumerate_count c.loop-i.i-iterator) c.loop-i.centres c.in_ok-centres.field-0 piece.below inv.filled (c.in_ok-centres.ensures ∙ piece.here) in
    record {
      can_next = search rules;
      finite = search rules;
      six = search rules;
      rest = cc;
      filled = rw (steps.1, steps.2) filled;
    }

pub returns-then-not-all_origin : goal.returns-then-not-all_origin
returns-then-not-all_origin c s e =
    let inv = c.loop-i.invariant in
    let long : length c.args.bytes.now ≡ 52 = search rules in
    let counted : u16_le c.from_le_bytes-count.result ≡ elements 0 2 c.args.bytes.now = search rules in
    let eight = no_piece c.args.bytes.now _ (enumerate_count c.loop-i.i-iterator) long inv.rest (subst (λ n. length (chunks_exact_rest (enumerate_source c.loop-i.i-iterator)) < n) inv.six c.in-None.ensures.steps.0.1.0) in
    both_ways _ (sym c.if-not-all_origin.ensures)
    (ap all_origin (unused_is _ _ c.loop-i.centres inv.filled.eight c.from.ensures) ∙ unused_are c.args.bytes.now s e c.from_le_bytes-count.result _ c.loop-i.centres eight inv.filled counted)

pub returns : goal.returns
returns c =
    let inv = c.loop-i.invariant in
    let long : length c.args.bytes.now ≡ 52 = search rules in
    let eight = no_piece c.args.bytes.now _ (enumerate_count c.loop-i.i-iterator) long inv.rest (subst (λ n. length (chunks_exact_rest (enumerate_source c.loop-i.i-iterator)) < n) inv.six c.in-None.ensures.steps.0.1.0) in
    filled_all c.args.bytes.now c.from_le_bytes-count.result c.from_le_bytes-radius.result _ c.loop-i.centres long (search rules) (search rules) eight inv.filled
