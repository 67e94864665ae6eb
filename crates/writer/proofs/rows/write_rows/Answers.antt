use Rattle.std.proofs.Common.{◌≡◌, ◌+◌, ◌*◌, length, ap, ◌∙◌, arith}
use Rattle.records.specs.Put.{put}
use Rattle.std.proofs.lemmas.Slice.{between_to_end}
use Rattle.writer.proofs.Laying.{rows_more, rows_all}
use Rattle.writer.proofs.rows.write_rows.Goals as goal

pub loop-i-preserved : goal.loop-i-preserved
loop-i-preserved g c =
    let R = g.R.Record in
    let i = c.loop-i.i in
    let rows = c.args.rows.now in
    let out = c.loop-i.out in
    let at = c.args.start + c.LENGTH.result * i in
    let begins = ap (λ k. c.args.start + k * i) c.LENGTH.ensures in
    let next =
    rows_more R.written R.LENGTH g.met.R.Record.sized rows c.args.out.now c.args.start c.requires i c.index-rows-i.result out c.write.new.out at begins c.loop-i-test.true c.index-rows-i.is c.loop-i.auto.out c.loop-i.invariant
    (c.write.ensures ∙ ap (put (R.written c.index-rows-i.result)) (between_to_end out at (length out) (omega arith))) in
    next

pub returns : goal.returns
returns g c =
    let R = g.R.Record in
    let done : c.loop-i.i ≡ length c.args.rows.now = omega (arith, c.loop-i-test.false, c.loop-i.auto.i-end) in
    rows_all R.written R.LENGTH g.met.R.Record.sized c.args.rows.now c.args.out.now c.args.start c.requires c.loop-i.i c.loop-i.out done c.loop-i.invariant
