use Rattle.std.proofs.Common.{◌≡◌, ◌+◌, ◌*◌, ◌<◌, length, take, drop, ap, ◌∙◌, subst, arith, length-take-le}
use Rattle.scenefile.specs.Rows.{row, Nobodys}
use Rattle.scenefile.proofs.Readings.{rows_more}
use Rattle.scenefile.proofs.Walks.{record_is, rest_is}
use Rattle.scenefile.proofs.rows.fill.Goals as goal
use Rattle.scenefile.proofs.rows.fill.Goals.{in-Some, in_default}

pub loop-place-preserved : goal.loop-place-preserved
loop-place-preserved g c =
    let R = g.R.Record in
    let inv = c.loop-place.invariant in
    let i = c.loop-place.place-index in
    let n = c.args.n in
    let table = c.args.table.now in
    let rest = c.loop-place.rest.now in
    let below : i < n = omega (arith, c.loop-place-test.true, c.loop-place.auto.place-items, length-take-le n c.args.into.now c.requires.room) in
    let inside : i < length c.loop-place.place-items = omega (arith, c.loop-place-test.true) in
    let front : c.split_at.result.0.now ≡ row table 0 R.LENGTH i =
    c.split_at.ensures.front ∙ ap (λ k. take k rest) c.LENGTH.ensures ∙ record_is R.LENGTH n i table rest c.requires.long inv.left below in
    let back : c.split_at.result.1.now ≡ drop (R.LENGTH * (i + 1)) table =
    c.split_at.ensures.back ∙ ap (λ k. drop k rest) c.LENGTH.ensures ∙ rest_is R.LENGTH n i table rest c.requires.long inv.left below in
    elim c.match-read.branch [
      | in-Some w ↦ record {
        left = rw w.rest-is back;
        read = rw w.place-items-is (rows_more R.written c.loop-place.place-items table 0 R.LENGTH i w.in-Some.read inside (w.in-Some.ensures ∙ front) inv.read);
      }
      | in_default w ↦ absurd (c.requires.good i below (subst (Nobodys R.written) front w.in_default.ensures))
    ]
