-- A pruned tree names no other solid and no other joint. Assumes nothing.
use Rattle.std.proofs.Common.{◌≡◌, ℕ, ◌+◌, ◌*◌, ◌≤◌, Bool, true, false, cond, not, ltb, List, [], ◌∷◌, ◌++◌, map, length, take, ℤ, sym, refl, ap, ◌∙◌, arith}
use lib.Signed.{lt_z}
use Rattle.space.specs.Pt.{Pt}
use Rattle.std.proofs.lemmas.Bool.{and_parts, and_from}
use Rattle.tree.proofs.Orders.{order_law}
use Rattle.tree.proofs.Smaller.{smaller_law}
use Rattle.tree.specs.Order.{depth}
use Rattle.tree.specs.Parts.{Parts}
use Rattle.tree.specs.Prune.{turned_by, kept, pruned_join, prune}
use Rattle.tree.specs.Rows.{entry_symbol}
use Rattle.tree.specs.Spell.{Symbol, operator, spell}
use Rattle.tree.specs.Tree.{Op, union, common, cut, gap, Tree, leaf, join, turn, value}
use Rattle.tree.specs.declared.node.Entry.{Entry}
use Rattle.scene.specs.Lists.{named, all_named, Evaluable}
use Rattle.scene.specs.Pruned.{CutDown}
use Rattle.scene.specs.declared.pruned.Pruned.{Pruned}

module _ (solids joints : ℕ) where
  -- on trees: every solid and every joint of the tree is in its table
  record Names (t : Tree) : Type 0 where
    all : all_named solids joints (spell t) ≡ true

  append_parts : (xs ys : List Symbol) → all_named solids joints (xs ++ ys) ≡ true → (all_named solids joints xs ≡ true) × (all_named solids joints ys ≡ true)
  append_parts [] ys e = (refl, e)
  append_parts (x ∷ xs) ys e =
      let parts = and_parts (named solids joints x) (all_named solids joints (xs ++ ys)) e in
      let rest = append_parts xs ys parts.1 in
      (and_from (named solids joints x) (all_named solids joints xs) parts.0 rest.0, rest.1)

  append_both : (xs ys : List Symbol) → all_named solids joints xs ≡ true → all_named solids joints ys ≡ true → all_named solids joints (xs ++ ys) ≡ true
  append_both [] ys e f = f
  append_both (x ∷ xs) ys e f =
      let parts = and_parts (named solids joints x) (all_named solids joints xs) e in
      and_from (named solids joints x) (all_named solids joints (xs ++ ys)) parts.0 (append_both xs ys parts.1 f)

  join_parts : (op : Op) (turned : Bool) (n : ℕ) (a b : Tree) → Names (join op turned n a b) → Names a × Names b × (all_named solids joints (operator op turned n ∷ []) ≡ true)
  unfolding spell
  join_parts op turned n a b e =
      let first = append_parts (spell a) (spell b ++ (operator op turned n ∷ [])) e.all in
      let second = append_parts (spell b) (operator op turned n ∷ []) first.1 in
      (record { all = first.0 }, record { all = second.0 }, second.1)

  join_both : (op : Op) (turned : Bool) (n : ℕ) (a b : Tree) → Names a → Names b → all_named solids joints (operator op turned n ∷ []) ≡ true → Names (join op turned n a b)
  unfolding spell
  join_both op turned n a b x y o = record { all = append_both (spell a) (spell b ++ (operator op turned n ∷ [])) x.all (append_both (spell b) (operator op turned n ∷ []) y.all o) }

  turn_names : (t : Tree) → Names t → Names (turn t)
  unfolding spell
  turn_names (leaf turned n) e = record { all = e.all }
  turn_names (join op turned n a b) e = let p = join_parts op turned n a b e in join_both op (not turned) n a b p.0 p.1 p.2

  turned_names : (by : Bool) (t : Tree) → Names t → Names (turned_by by t)
  turned_names true t e = turn_names t e
  turned_names false t e = e

  pick_names : (less : Bool) (x y : Tree) → Names x → Names y → Names (cond less x y)
  pick_names true x y e f = e
  pick_names false x y e f = f

  kept_names : (op : Op) (A B : ℤ) (x y : Tree) → Names x → Names y → Names (kept op A B x y)
  kept_names union A B x y e f = pick_names (lt_z A B) x y e f
  kept_names common A B x y e f = pick_names (lt_z A B) y x f e
  kept_names cut A B x y e f = pick_names (lt_z A B) y x f e

  module _ (P : Parts) (c : Pt) (R : ℕ) where
    join_names : (op : Op) (turned : Bool) (n : ℕ) (a b : Tree) → Names a → Names b → all_named solids joints (operator op turned n ∷ []) ≡ true → Names (pruned_join P c R op turned n a b)
    join_names op turned n a b x y o = go (ltb (P.radius n + 2 * R) (gap (value P a c) (value P b c)))
      where
        go : (out : Bool) → Names (cond out (turned_by turned (kept op (value P a c) (value P b c) a b)) (join op turned n a b))
        go true = turned_names turned _ (kept_names op (value P a c) (value P b c) a b x y)
        go false = join_both op turned n a b x y o

    prune_names : (t : Tree) → Names t → Names (prune P c R t)
    unfolding prune
    prune_names (leaf turned n) e = e
    prune_names (join union turned n a b) e = let p = join_parts union turned n a b e in join_names union turned n _ _ (prune_names a p.0) (prune_names b p.1) p.2
    prune_names (join common turned n a b) e = let p = join_parts common turned n a b e in join_names common turned n _ _ (prune_names a p.0) (prune_names b p.1) p.2
    prune_names (join cut turned n a b) e = let p = join_parts cut turned n a b e in join_names common turned n _ _ (prune_names a p.0) (turn_names _ (prune_names b p.1)) p.2

    -- the pruned list can be worked out as well
    pub pruned_evaluable : (list free : List Entry) (r : Pruned) → Evaluable solids joints (map entry_symbol list) → CutDown P c R list free r → Evaluable solids joints (map entry_symbol (take r.length free))
    pruned_evaluable list free r e did =
        let t = did.tree in
        let found = (order_law (map entry_symbol list)).0 e.ordered in
        let same : found.0 ≡ t = (order_law (map entry_symbol list)).2 found.0 t found.1 did.spelled in
        let deep = ap depth same in
        let small = smaller_law P c R t in
        let flat : depth (prune P c R t) ≤ 64 = omega (arith, found.2, deep, small.1) in
        record {
          within = ap (all_named solids joints) did.entries ∙ (prune_names t (record { all = ap (all_named solids joints) did.spelled ∙ e.within })).all;
          ordered = (order_law (map entry_symbol (take r.length free))).1 (prune P c R t) (sym did.entries) flat;
          short = omega (arith, ap length did.entries, ap length did.spelled, small.0, e.short);
        }
