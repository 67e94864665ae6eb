use Rattle.std.proofs.Common.{◌≡◌, Bool, true, false, ◌&&◌, ◌⊎◌, sym, ◌∙◌, inl, inr}
use Rattle.cells.proofs.Casts.{has_read}
use Rattle.cells.proofs.cell.Cell.contains.Goals as goal
use Rattle.cells.proofs.cell.Cell.contains.Goals.{then-x, else-x}

pub returns-then-y : goal.returns-then-y
returns-then-y c =
    let h = c.if-y.true in
    sym (has_read c.args.self c.args.p c.side-extent.result c.spans-x.result c.spans-y.result c.spans-z.result c.side-extent.ensures c.spans-x.ensures c.spans-y.ensures c.spans-z.ensures
    ∙ rw (h.0, h.1))

-- an axis that says no
none : (x y z : Bool) → (x ≡ true × y ≡ false) ⊎ (x ≡ false) → (x && (y && z)) ≡ false
none x y z (inl h) = rw (h.0, h.1)
none x y z (inr h) = rw h

pub returns-else-y : goal.returns-else-y
returns-else-y c =
    let e = has_read c.args.self c.args.p c.side-extent.result c.spans-x.result c.spans-y.result c.spans-z.result c.side-extent.ensures c.spans-x.ensures c.spans-y.ensures c.spans-z.ensures
    ∙ none c.spans-x.result c.spans-y.result c.spans-z.result c.if-y.either in
    elim c.if-x.branch [
      | then-x w ↦ (let yes = w.if-x.true in elim c.if-y.either [ inl h ↦ (let no = h.1 in cc) | inr h ↦ (cc) ])
      | else-x w ↦ (let no = w.if-x.false in cc)
    ]
