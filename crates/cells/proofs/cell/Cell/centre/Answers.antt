use Rattle.cells.specs.Cells.{side}
use Rattle.cells.proofs.Casts.{middle_read}
use Rattle.cells.proofs.Levels.{side_some}
use Rattle.cells.proofs.cell.Cell.centre.Goals as goal

pub returns : goal.returns
returns c =
    let s = c.args.self in
    let some = side_some s.level s.level_in in
    let e = c.side.ensures in
    λ i. record {
      x = middle_read (side s.level) c.side.result s.low.x some s.x_in e i;
      y = middle_read (side s.level) c.side.result s.low.y some s.y_in e i;
      z = middle_read (side s.level) c.side.result s.low.z some s.z_in e i;
    }
