use Rattle.std.proofs.Common.{sym}
use Rattle.cells.proofs.Casts.{no_child, no_point, toward_x, toward_y, toward_z, toward_is}
use Rattle.cells.proofs.cell.Cell.toward.Goals as goal
use Rattle.cells.proofs.cell.Cell.toward.Goals.{then-self-ge-FINEST-via-then-self-ge-FINEST, then-self-ge-FINEST-via-else-self-ge-FINEST+then-not-contains}

pub returns-then-self-ge-FINEST : goal.returns-then-self-ge-FINEST
returns-then-self-ge-FINEST c =
    elim c.then-self-ge-FINEST.branch [
      | then-self-ge-FINEST-via-then-self-ge-FINEST w ↦ no_child c.args.self c.args.p w.if-self-ge-FINEST.true
      | then-self-ge-FINEST-via-else-self-ge-FINEST+then-not-contains w ↦ no_point c.args.self c.args.p (sym w.if-not-contains.ensures)
    ]

pub place_toward-first-requires : goal.place_toward-first-requires
place_toward-first-requires c =
    let h = toward_x c.args.self c.args.p c.child_side-extent.result c.if-self-ge-FINEST.false c.if-not-contains.ensures c.child_side-extent.ensures in
    record { some = h.0; near = h.1 }

pub place_toward-second-requires : goal.place_toward-second-requires
place_toward-second-requires c =
    let h = toward_y c.args.self c.args.p c.child_side-extent.result c.if-self-ge-FINEST.false c.if-not-contains.ensures c.child_side-extent.ensures in
    record { some = h.0; near = h.1 }

pub place_toward-third-requires : goal.place_toward-third-requires
place_toward-third-requires c =
    let h = toward_z c.args.self c.args.p c.child_side-extent.result c.if-self-ge-FINEST.false c.if-not-contains.ensures c.child_side-extent.ensures in
    record { some = h.0; near = h.1 }

pub returns : goal.returns
returns c =
    toward_is c.args.self c.args.p c.child_side-extent.result c.if-self-ge-FINEST.false c.if-not-contains.ensures c.child_side-extent.ensures
    c.place_toward-first.result c.place_toward-second.result c.place_toward-third.result
    c.place_toward-first.ensures.value c.place_toward-second.ensures.value c.place_toward-third.ensures.value
