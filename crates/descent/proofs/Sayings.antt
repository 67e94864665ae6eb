-- What a descent answers says what the list says. Assumes nothing.
use Rattle.std.proofs.Common.{◌≡◌, ℕ, ◌≤◌, List, map, ℤ, sym, ap, ◌∙◌, subst}
use Rattle.cells.specs.Cell.{cube}
use Rattle.cells.specs.CellLaw.{Inside}
use Rattle.cells.specs.Cells.{Cube, In}
use Rattle.cells.specs.declared.cell.Cell.{Cell}
use Rattle.descent.specs.Descent.{Answers, Descends, Tells}
use Rattle.descent.specs.declared.child.Child.{Child}
use Rattle.descent.specs.declared.child.Child.TheVariants.{Near, Far}
use Rattle.paths.proofs.Holding.{descended_says}
use Rattle.paths.specs.Held.{Held, near, far, descended, Says}
use Rattle.space.specs.Bound.{Bound}
use Rattle.space.specs.Pt.{Pt}
use Rattle.tree.proofs.Orders.{spell_one}
use Rattle.tree.specs.Distance.{Distance}
use Rattle.tree.specs.Parts.{Parts, Lawful}
use Rattle.tree.specs.Rows.{entry_symbol}
use Rattle.tree.specs.Tree.{Tree, value}
use Rattle.tree.specs.declared.node.Entry.{Entry}

pub cell_inside : (c : Cell) → Inside (cube c)
cell_inside c = record { level_in = c.level_in; x_in = c.x_in; y_in = c.y_in; z_in = c.z_in }

-- an answer tells what is held
tells : (P : Parts) (free : List Entry) (p : Pt) (v : ℤ) (h : Held) (r : Child) → Answers h free r → Says P h p v → Tells P free r p v
tells P free p v (near t) (Near n) a says = (t, sym a.0, sym says)
tells P free p v (near t) (Far w) a says = absurd a
tells P free p v (far c) (Near n) a says = absurd a
tells P free p v (far c) (Far w) a says = subst (λ (x : ℤ). Bound x v) (sym a) says

pub child_says : (P : Parts) → Lawful P → (C : ℕ) (child : Cube) → Inside child → (list free : List Entry) (r : Child) → Descends P C child list free r → 2 ≤ C → (p : Pt) (v : ℤ) → In child p → Distance P (map entry_symbol list) p v → Tells P free r p v
child_says P law C child inside list free r did two p v p_in given =
    let t = did.tree in
    let same : given.0 ≡ t = spell_one given.0 t (given.1 ∙ sym did.spelled) in
    let is : value P t p ≡ v = sym (given.2 ∙ ap (λ (u : Tree). value P u p) same) in
    tells P free p v (descended P C child (near t)) r did.answers (descended_says P law C two child inside p p_in (near t) v is)
