use Rattle.cells.proofs.Cubes.{few_first, few_second, few_third}
use Rattle.cells.proofs.Casts.{four_held, child_ranges, child_held, child_read}
use Rattle.cells.proofs.cell.Cell.child.Goals as goal

pub part-requires : goal.part-requires
part-requires c =
    let s = c.args.self in
    record { few = few_first c.args.number; held = four_held s.level c.child_side-extent.result s.low.x c.if-self-ge-FINEST.false s.x_in c.child_side-extent.ensures }

pub part-requires-2 : goal.part-requires-2
part-requires-2 c =
    let s = c.args.self in
    record { few = few_second c.args.number; held = four_held s.level c.child_side-extent.result s.low.y c.if-self-ge-FINEST.false s.y_in c.child_side-extent.ensures }

pub part-requires-3 : goal.part-requires-3
part-requires-3 c =
    let s = c.args.self in
    record { few = few_third c.args.number c.if-number-ge-CHILDREN.false; held = four_held s.level c.child_side-extent.result s.low.z c.if-self-ge-FINEST.false s.z_in c.child_side-extent.ensures }

pub invariant_of-result : goal.invariant_of-result
invariant_of-result c =
    let h =
    child_ranges c.args.self c.args.number c.child_side-extent.result c.part.result c.part-2.result c.part-3.result
    c.if-number-ge-CHILDREN.false c.if-self-ge-FINEST.false c.child_side-extent.ensures c.part.ensures c.part-2.ensures c.part-3.ensures in
    record { x_in = h.x_in; y_in = h.y_in; z_in = h.z_in }

pub invariant_of-result-2 : goal.invariant_of-result-2
invariant_of-result-2 c =
    let h =
    child_held c.args.self c.args.number c.child_side-extent.result c.part.result c.part-2.result c.part-3.result
    c.if-number-ge-CHILDREN.false c.if-self-ge-FINEST.false c.child_side-extent.ensures c.part.ensures c.part-2.ensures c.part-3.ensures in
    record { level_in = h.level_in; x_in = h.x_in; y_in = h.y_in; z_in = h.z_in }

pub returns : goal.returns
returns c =
    child_read c.args.self c.args.number c.child_side-extent.result c.part.result c.part-2.result c.part-3.result
    c.if-number-ge-CHILDREN.false c.if-self-ge-FINEST.false c.child_side-extent.ensures c.part.ensures c.part-2.ensures c.part-3.ensures
