-- A list worked out symbol by symbol, over what waits, the last on top. Assumes nothing.
use Rattle.std.specs.Prelude.{List, [], ◌∷◌, ℤ, pos}
use Rattle.space.specs.Pt.{Pt}
use Rattle.tree.specs.Parts.{Parts}
use Rattle.tree.specs.Spell.{Symbol, solid, operator}
use Rattle.tree.specs.Tree.{handed, joined}

-- a solid puts its value on top; an operator takes its two operands off and puts its value there
abbrev pub stepped : Parts → Pt → Symbol → List ℤ → List ℤ
stepped P p (solid turned n) waiting = handed turned (P.distance n p) ∷ waiting
stepped P p (operator op turned n) [] = []
stepped P p (operator op turned n) (b ∷ []) = []
stepped P p (operator op turned n) (b ∷ a ∷ waiting) = handed turned (joined op (P.fillet n) a b) ∷ waiting

-- what waits after a list, by what one symbol does
abbrev pub run_by : {X : Type 0} → (Symbol → X → X) → List Symbol → X → X
run_by step [] waiting = waiting
run_by step (s ∷ rest) waiting = run_by step rest (step s waiting)

abbrev pub on_top : List ℤ → ℤ
on_top [] = pos 0
on_top (v ∷ waiting) = v
