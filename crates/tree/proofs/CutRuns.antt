-- A list cut down with a stack of trees: a tree's list leaves the pruned tree on top. Assumes nothing.
use Rattle.std.proofs.Common.{◌≡◌, ℕ, ◌+◌, ◌*◌, ◌≤◌, Bool, true, false, cond, ltb, List, [], ◌∷◌, ◌++◌, map, ℤ, nat_abs, sym, refl, ap, ◌∙◌, append_assoc, append-nil, arith}
use lib.Signed.{lt_z}
use Rattle.space.specs.Pt.{Pt, InSpace}
use Rattle.tree.specs.CutStep.{pruned_operator, cut_step}
use Rattle.tree.specs.Parts.{Parts, Lawful}
use Rattle.tree.specs.Prune.{turned_by, kept, pruned_join, prune}
use Rattle.tree.specs.Spell.{Symbol, solid, operator, spell}
use Rattle.tree.specs.Stepped.{run_by}
use Rattle.tree.specs.Tree.{Op, union, common, cut, joined, gap, Tree, leaf, join, turn, value}
use Rattle.tree.proofs.Pruning.{turned_by_value}
use Rattle.tree.proofs.Sizes.{Small, small_up, handed_size, joined_small, fillet_small}
use Rattle.tree.proofs.Wholes.{turn_value}

-- the trees that wait after a list
abbrev pub cut_run : Parts → Pt → ℕ → List Symbol → List Tree → List Tree
cut_run P c R = run_by (cut_step P c R)

module _ (P : Parts) (c : Pt) (R : ℕ) where
  pruned_is : (op : Op) (turned : Bool) (n : ℕ) (a b : Tree) → pruned_operator P c R op turned n (prune P c R a) (prune P c R b) ≡ prune P c R (join op turned n a b)
  unfolding prune
  pruned_is union turned n a b = refl
  pruned_is common turned n a b = refl
  pruned_is cut turned n a b = refl

  leaf_is : (turned : Bool) (n : ℕ) → leaf turned n ≡ prune P c R (leaf turned n)
  unfolding prune
  leaf_is turned n = refl

  cut_run_spell : (t : Tree) (rest : List Symbol) (st : List Tree) → cut_run P c R (spell t ++ rest) st ≡ cut_run P c R rest (prune P c R t ∷ st)
  unfolding spell
  cut_run_spell (leaf turned n) rest st = ap (λ x. cut_run P c R rest (x ∷ st)) (leaf_is turned n)
  cut_run_spell (join op turned n a b) rest st =
      let o = operator op turned n ∷ rest in
      simp append_assoc (cut_run_spell a (spell b ++ o) st ∙ cut_run_spell b o (prune P c R a ∷ st) ∙ ap (λ x. cut_run P c R rest (x ∷ st)) (pruned_is op turned n a b))

  pub cut_run_tree : (t : Tree) → cut_run P c R (spell t) [] ≡ prune P c R t ∷ []
  cut_run_tree t = ap (λ l. cut_run P c R l []) (sym (append-nil (spell t))) ∙ cut_run_spell t [] []

-- ---- the values of what is left stay as small

abbrev pub values : Parts → Pt → List Tree → List ℤ
values P c st = map (λ t. value P t c) st

module _ (P : Parts) (law : Lawful P) (c : Pt) (c_in : InSpace c) (R : ℕ) where
  pick_small : (less : Bool) (x y : Tree) (m : ℕ) → nat_abs (value P x c) ≤ m → nat_abs (value P y c) ≤ m → nat_abs (value P (cond less x y) c) ≤ m
  pick_small true x y m h k = h
  pick_small false x y m h k = k

  kept_small : (op : Op) (A B : ℤ) (x y : Tree) (m : ℕ) → nat_abs (value P x c) ≤ m → nat_abs (value P y c) ≤ m → nat_abs (value P (kept op A B x y) c) ≤ m
  kept_small union A B x y m h k = pick_small (lt_z A B) x y m h k
  kept_small common A B x y m h k = pick_small (lt_z A B) y x m k h
  kept_small cut A B x y m h k = pick_small (lt_z A B) y x m k h

  join_small : (op : Op) (turned : Bool) (n : ℕ) (a b : Tree) (m : ℕ) → nat_abs (value P a c) ≤ m → nat_abs (value P b c) ≤ m → nat_abs (value P (pruned_join P c R op turned n a b) c) ≤ m + 1024
  unfolding value
  join_small op turned n a b m h k = go (ltb (P.radius n + 2 * R) (gap (value P a c) (value P b c)))
    where
      go : (out : Bool) → nat_abs (value P (cond out (turned_by turned (kept op (value P a c) (value P b c) a b)) (join op turned n a b)) c) ≤ m + 1024
      go true =
          let t = kept op (value P a c) (value P b c) a b in
          let e = ap nat_abs (turned_by_value P turned t c) ∙ handed_size turned (value P t c) in
          let small = kept_small op (value P a c) (value P b c) a b m h k in
          omega (arith, e, small)
      go false =
          let j = joined op (P.fillet n) (value P a c) (value P b c) in
          let e = handed_size turned j in
          let small = joined_small op (P.fillet n) (value P a c) (value P b c) m (fillet_small (law.smooth n)) h k in
          omega (arith, e, small)

  operator_small : (op : Op) (turned : Bool) (n : ℕ) (a b : Tree) (m : ℕ) → nat_abs (value P a c) ≤ m → nat_abs (value P b c) ≤ m → nat_abs (value P (pruned_operator P c R op turned n a b) c) ≤ m + 1024
  operator_small union turned n a b m h k = join_small union turned n a b m h k
  operator_small common turned n a b m h k = join_small common turned n a b m h k
  operator_small cut turned n a b m h k =
      let e = ap nat_abs (turn_value P b c) in
      let size = handed_size true (value P b c) in
      join_small common turned n a (turn b) m h (omega (arith, e, size, k))

  pub cut_small : (s : Symbol) (st : List Tree) (m : ℕ) → 32767 ≤ m → Small m (values P c st) → Small (m + 1024) (values P c (cut_step P c R s st))
  unfolding value
  cut_small (solid turned n) st m base small =
      let h = law.ranged n c c_in in
      let size = handed_size turned (P.distance n c) in
      (omega (arith, h, size), small_up m (m + 1024) (omega arith) (values P c st) small)
  cut_small (operator op turned n) [] m base small = tt
  cut_small (operator op turned n) (b ∷ []) m base small = tt
  cut_small (operator op turned n) (b ∷ a ∷ st) m base small =
      (operator_small op turned n a b m small.1.0 small.0, small_up m (m + 1024) (omega arith) (values P c st) small.1.1)
