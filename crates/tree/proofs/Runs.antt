-- A list worked out with a stack of values: a tree's list leaves the tree's value on top. Assumes nothing.
use Rattle.std.proofs.Common.{◌≡◌, List, [], ◌∷◌, ◌++◌, ℤ, sym, refl, ap, ◌∙◌, append_assoc, append-nil}
use Rattle.space.specs.Pt.{Pt}
use Rattle.tree.specs.Parts.{Parts}
use Rattle.tree.specs.Spell.{Symbol, operator, spell}
use Rattle.tree.specs.Stepped.{stepped, run_by}
use Rattle.tree.specs.Tree.{Tree, leaf, join, value}

-- the values that wait after a list
abbrev pub run : Parts → Pt → List Symbol → List ℤ → List ℤ
run P p = run_by (stepped P p)

pub run_spell : (P : Parts) (p : Pt) (t : Tree) (rest : List Symbol) (st : List ℤ) → run P p (spell t ++ rest) st ≡ run P p rest (value P t p ∷ st)
unfolding spell value
run_spell P p (leaf turned n) rest st = refl
run_spell P p (join op turned n a b) rest st =
    let o = operator op turned n ∷ rest in
    simp append_assoc (run_spell P p a (spell b ++ o) st ∙ run_spell P p b o (value P a p ∷ st))

pub run_tree : (P : Parts) (p : Pt) (t : Tree) → run P p (spell t) [] ≡ value P t p ∷ []
run_tree P p t = ap (λ l. run P p l []) (sym (append-nil (spell t))) ∙ run_spell P p t [] []
