use Rattle.std.proofs.Common.{◌≡◌, ◌∙◌}
use Rattle.space.specs.At.{pt_outcome, seen}
use Rattle.records.proofs.Ranged.{reads_point, wide}
use Rattle.records.proofs.point.point.Goals as goal

pub returns : goal.returns
returns c =
    let x_fits = c.ranges.x in
    let y_fits = c.ranges.y in
    let z_fits = c.ranges.z in
    let is : seen c.new.result ≡ pt_outcome c.args.x c.args.y c.args.z =
    c.new.ensures ∙ (λ i. pt_outcome (wide c.args.x c.from.result x_fits c.from.ensures i) (wide c.args.y c.from-2.result y_fits c.from-2.ensures i) (wide c.args.z c.from-3.result z_fits c.from-3.ensures i)) in
    reads_point (record { x = c.args.x; y = c.args.y; z = c.args.z }) c.new.result c.ok.result is c.ok.ensures.value
