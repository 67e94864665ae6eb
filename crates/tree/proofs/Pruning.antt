-- A pruned tree says what the tree says. Assumes nothing.
use Rattle.std.proofs.Common.{◌≡◌, ℕ, ◌+◌, ◌*◌, ◌<◌, ◌≤◌, Bool, true, false, cond, ltb, ℤ, pos, ◌+ℤ◌, ◌-ℤ◌, neg_ℤ, nat_abs, ◌≤ℤ◌, ◌<ℤ◌, refl, ap, ◌∙◌, ap₂, arith}
use lib.Signed.{lt_z, lt_z_yes, lt_z_no}
use Rattle.space.specs.Laws.{FilletLaw}
use Rattle.space.specs.Pt.{Pt, InSpace, apart²}
use Rattle.std.proofs.lemmas.Int.{ints, clamps}
use Rattle.std.proofs.lemmas.Bool.{ltb-true}
use Rattle.std.specs.Int.{int_max, int_min}
use Rattle.tree.specs.Parts.{Parts, Lawful}
use Rattle.tree.specs.Prune.{turned_by, kept, pruned_join, prune, PruneLaw}
use Rattle.tree.specs.Tree.{Op, union, common, cut, joined, gap, handed, Tree, leaf, join, turn, value}
use Rattle.tree.proofs.Values.{value_law}
use Rattle.tree.proofs.Wholes.{turn_value}

pub turned_by_value : (P : Parts) (turned : Bool) (t : Tree) (p : Pt) → value P (turned_by turned t) p ≡ handed turned (value P t p)
turned_by_value P true t p = turn_value P t p
turned_by_value P false t p = refl

-- what an operator gives where its operands are far apart: a and b at the point, A and B at the centre
module _ (a b A B : ℤ) (R k : ℕ) (near_a : nat_abs (A -ℤ a) ≤ R) (near_b : nat_abs (B -ℤ b) ≤ R) (far : k + 2 * R < gap A B) where
  still_far : k ≤ gap a b
  still_far = omega (arith, ints)

  lesser : (f : ℕ → ℕ) → FilletLaw k f → (less : Bool) → lt_z A B ≡ less → cond less a b ≡ joined union f a b
  lesser f law true e =
      let under : A <ℤ B = lt_z_yes (rw e tt) in
      let none = law.ends (gap a b) still_far in
      least (f (gap a b)) none under
    where
      least : (u : ℕ) → u ≡ 0 → A <ℤ B → a ≡ int_min a b -ℤ pos u
      least u none under = omega (arith, ints, clamps)
  lesser f law false e =
      let over : B ≤ℤ A = lt_z_no (rw e tt) in
      let none = law.ends (gap a b) still_far in
      least (f (gap a b)) none over
    where
      least : (u : ℕ) → u ≡ 0 → B ≤ℤ A → b ≡ int_min a b -ℤ pos u
      least u none over = omega (arith, ints, clamps)

  greater : (f : ℕ → ℕ) → FilletLaw k f → (less : Bool) → lt_z A B ≡ less → cond less b a ≡ joined common f a b
  greater f law true e =
      let under : A <ℤ B = lt_z_yes (rw e tt) in
      let none = law.ends (gap a b) still_far in
      most (f (gap a b)) none under
    where
      most : (u : ℕ) → u ≡ 0 → A <ℤ B → b ≡ int_max a b +ℤ pos u
      most u none under = omega (arith, ints, clamps)
  greater f law false e =
      let over : B ≤ℤ A = lt_z_no (rw e tt) in
      let none = law.ends (gap a b) still_far in
      most (f (gap a b)) none over
    where
      most : (u : ℕ) → u ≡ 0 → B ≤ℤ A → a ≡ int_max a b +ℤ pos u
      most u none over = omega (arith, ints, clamps)

-- an operator that drops out, or stays
module _ (P : Parts) (law : Lawful P) (centre p : Pt) (R : ℕ) (c_in : InSpace centre) (p_in : InSpace p) (close : apart² centre p ≤ R * R) where
  pick : (less : Bool) (x y : Tree) → value P (cond less x y) p ≡ cond less (value P x p) (value P y p)
  pick true x y = refl
  pick false x y = refl

  near : (t : Tree) → nat_abs (value P t centre -ℤ value P t p) ≤ R
  near t = value_law P law t centre p R c_in p_in close

  union_kept : (n : ℕ) (a b : Tree) → P.radius n + 2 * R < gap (value P a centre) (value P b centre) → value P (kept union (value P a centre) (value P b centre) a b) p ≡ joined union (P.fillet n) (value P a p) (value P b p)
  union_kept n a b far =
      pick (lt_z (value P a centre) (value P b centre)) a b
      ∙ lesser (value P a p) (value P b p) (value P a centre) (value P b centre) R (P.radius n) (near a) (near b) far (P.fillet n) (law.smooth n) _ refl

  common_kept : (n : ℕ) (a b : Tree) → P.radius n + 2 * R < gap (value P a centre) (value P b centre) → value P (kept common (value P a centre) (value P b centre) a b) p ≡ joined common (P.fillet n) (value P a p) (value P b p)
  common_kept n a b far =
      pick (lt_z (value P a centre) (value P b centre)) b a
      ∙ greater (value P a p) (value P b p) (value P a centre) (value P b centre) R (P.radius n) (near a) (near b) far (P.fillet n) (law.smooth n) _ refl

  dropped : (op : Op) (turned : Bool) (n : ℕ) (a b : Tree) → ((far : P.radius n + 2 * R < gap (value P a centre) (value P b centre)) → value P (kept op (value P a centre) (value P b centre) a b) p ≡ joined op (P.fillet n) (value P a p) (value P b p)) → value P (pruned_join P centre R op turned n a b) p ≡ value P (join op turned n a b) p
  unfolding value
  dropped op turned n a b same = go (ltb (P.radius n + 2 * R) (gap (value P a centre) (value P b centre))) refl
    where
      go : (out : Bool) → ltb (P.radius n + 2 * R) (gap (value P a centre) (value P b centre)) ≡ out → value P (cond out (turned_by turned (kept op (value P a centre) (value P b centre) a b)) (join op turned n a b)) p ≡ value P (join op turned n a b) p
      go true e = turned_by_value P turned (kept op (value P a centre) (value P b centre) a b) p ∙ ap (handed turned) (same (ltb-true _ _ e))
      go false e = refl

  pub prune_value : (t : Tree) → value P (prune P centre R t) p ≡ value P t p
  unfolding value prune
  prune_value (leaf turned n) = refl
  prune_value (join union turned n a b) =
      let a' = prune P centre R a in
      let b' = prune P centre R b in
      dropped union turned n a' b' (union_kept n a' b')
      ∙ ap₂ (λ x y. handed turned (joined union (P.fillet n) x y)) (prune_value a) (prune_value b)
  prune_value (join common turned n a b) =
      let a' = prune P centre R a in
      let b' = prune P centre R b in
      dropped common turned n a' b' (common_kept n a' b')
      ∙ ap₂ (λ x y. handed turned (joined common (P.fillet n) x y)) (prune_value a) (prune_value b)
  prune_value (join cut turned n a b) =
      let a' = prune P centre R a in
      let b' = turn (prune P centre R b) in
      dropped common turned n a' b' (common_kept n a' b')
      ∙ ap₂ (λ x y. handed turned (joined common (P.fillet n) x y)) (prune_value a) (turn_value P (prune P centre R b) p ∙ ap neg_ℤ (prune_value b))

pub prune_law : PruneLaw
prune_law P law t centre p R c_in p_in close = prune_value P law centre p R c_in p_in close t
