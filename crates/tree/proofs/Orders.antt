-- Lists without a fault are the lists of trees. Assumes nothing.
use Rattle.std.proofs.Common.{◌≡◌, ℕ, suc, pred, ◌+◌, ◌<◌, ◌≤◌, max, Bool, true, false, cond, eqb, ltb, List, [], ◌∷◌, ◌++◌, length, Some, None, sym, refl, ap, ◌∙◌, append_assoc, append-nil, arith}
use Rattle.std.proofs.lemmas.Bool.{ltb-true, ltb-false, eqb-true, lt-ltb, le-ltb}
use Rattle.tree.specs.Order.{order_fault, depth, OrderLaw}
use Rattle.tree.specs.Spell.{Symbol, solid, operator, spell, spell_all}
use Rattle.tree.specs.Tree.{Op, Tree, leaf, join}

some_none : {X : Type 0} {i : ℕ} → Some i ≡ None → X
some_none e = let z : ◌≡◌ {A = ℕ} 0 1 = cc in absurd (let f : ⊥ = omega arith in f)

-- ---- what one symbol of a list without a fault tells

pub at_end : (i w : ℕ) → order_fault i w [] ≡ None → w ≡ 1
unfolding order_fault
at_end i w e = go (eqb w 1) refl e
  where
    go : (b : Bool) → eqb w 1 ≡ b → cond b None (Some i) ≡ None → w ≡ 1
    go true q e' = eqb-true w 1 q
    go false q e' = some_none e'

pub at_solid : (i w : ℕ) (turned : Bool) (n : ℕ) (rest : List Symbol) → order_fault i w (solid turned n ∷ rest) ≡ None → (w < 64) × (order_fault (suc i) (suc w) rest ≡ None)
unfolding order_fault
at_solid i w turned n rest e = go (ltb w 64) refl e
  where
    go : (b : Bool) → ltb w 64 ≡ b → cond b (order_fault (suc i) (suc w) rest) (Some i) ≡ None → (w < 64) × (order_fault (suc i) (suc w) rest ≡ None)
    go true q e' = (ltb-true w 64 q, e')
    go false q e' = some_none e'

pub at_operator : (i w : ℕ) (op : Op) (turned : Bool) (n : ℕ) (rest : List Symbol) → order_fault i w (operator op turned n ∷ rest) ≡ None → (2 ≤ w) × (order_fault (suc i) (pred w) rest ≡ None)
unfolding order_fault
at_operator i w op turned n rest e = go (ltb w 2) refl e
  where
    go : (b : Bool) → ltb w 2 ≡ b → cond b (Some i) (order_fault (suc i) (pred w) rest) ≡ None → (2 ≤ w) × (order_fault (suc i) (pred w) rest ≡ None)
    go true q e' = some_none e'
    go false q e' = (ltb-false w 2 q, e')

-- ---- a list without a fault is a tree's

-- how many values have waited at once
abbrev waited : List Tree → ℕ
waited [] = 0
waited (t ∷ st) = max (length st + depth t) (waited st)

abbrev Found : List Symbol → Type 0
Found l = (t : Tree) × (spell t ≡ l) × (depth t ≤ 64)

found : (i : ℕ) (l : List Symbol) (st : List Tree) → order_fault i (length st) l ≡ None → waited st ≤ 64 → Found (spell_all st ++ l)
unfolding depth spell
found i [] [] e h = let w = at_end i 0 e in absurd (let f : ⊥ = omega arith in f)
found i [] (t ∷ []) e h = (t, sym (append-nil (spell t)), omega arith)
found i [] (t ∷ u ∷ st) e h = let w = at_end i (length (t ∷ u ∷ st)) e in absurd (let f : ⊥ = omega arith in f)
found i (solid turned n ∷ rest) st e h =
    let s = at_solid i (length st) turned n rest e in
    let r = found (suc i) rest (leaf turned n ∷ st) s.1 (omega arith) in
    (r.0, r.1 ∙ append_assoc (spell_all st) (solid turned n ∷ []) rest, r.2)
found i (operator op turned n ∷ rest) [] e h = let s = at_operator i 0 op turned n rest e in absurd (let f : ⊥ = omega (arith, s.0) in f)
found i (operator op turned n ∷ rest) (b ∷ []) e h = let s = at_operator i 1 op turned n rest e in absurd (let f : ⊥ = omega (arith, s.0) in f)
found i (operator op turned n ∷ rest) (b ∷ a ∷ st) e h =
    let s = at_operator i (length (b ∷ a ∷ st)) op turned n rest e in
    let r = found (suc i) rest (join op turned n a b ∷ st) s.1 (omega arith) in
    (r.0, r.1 ∙ simp append_assoc, r.2)

-- ---- a tree's list has no fault

clean : (t : Tree) (i w : ℕ) (rest : List Symbol) → w + depth t ≤ 64 → (j : ℕ) × (order_fault i w (spell t ++ rest) ≡ order_fault j (suc w) rest)
unfolding depth spell order_fault
clean (leaf turned n) i w rest h =
    let few : w < 64 = omega arith in
    (suc i, rw (lt-ltb w 64 few))
clean (join op turned n a b) i w rest h =
    let o = operator op turned n ∷ rest in
    let x = clean a i w (spell b ++ o) (omega arith) in
    let y = clean b x.0 (suc w) o (omega arith) in
    let two : 2 ≤ suc (suc w) = omega arith in
    (suc y.0, simp append_assoc (x.1 ∙ y.1 ∙ rw (le-ltb (suc (suc w)) 2 two)))

-- ---- a list is one tree's only

-- the trees that a list leaves waiting
abbrev built : List Symbol → List Tree → List Tree
built [] st = st
built (solid turned n ∷ rest) st = built rest (leaf turned n ∷ st)
built (operator op turned n ∷ rest) [] = []
built (operator op turned n ∷ rest) (b ∷ []) = []
built (operator op turned n ∷ rest) (b ∷ a ∷ st) = built rest (join op turned n a b ∷ st)

built_spell : (t : Tree) (rest : List Symbol) (st : List Tree) → built (spell t ++ rest) st ≡ built rest (t ∷ st)
unfolding spell
built_spell (leaf turned n) rest st = refl
built_spell (join op turned n a b) rest st =
    let o = operator op turned n ∷ rest in
    simp append_assoc (built_spell a (spell b ++ o) st ∙ built_spell b o (a ∷ st))

pub spell_one : (t u : Tree) → spell t ≡ spell u → t ≡ u
spell_one t u e =
    let alone : (x : Tree) → built (spell x) [] ≡ x ∷ [] = λ x. ap (λ l. built l []) (sym (append-nil (spell x))) ∙ built_spell x [] [] in
    let same : t ∷ [] ≡ u ∷ [] = sym (alone t) ∙ ap (λ l. built l []) e ∙ alone u in
    cc

pub order_law : OrderLaw
unfolding order_fault
order_law l = (
  λ e. found 0 l [] e (omega arith),
  λ t e h. let c = clean t 0 0 [] (omega arith) in ap (order_fault 0 0) (sym e ∙ sym (append-nil (spell t))) ∙ c.1,
  λ t u e f. spell_one t u (e ∙ sym f),
)
