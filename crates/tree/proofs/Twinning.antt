-- Twins agree. Assumes nothing.
use Rattle.std.proofs.Common.{◌≡◌, ℕ, ◌+◌, ◌*◌, ◌<◌, Bool, true, false, cond, not, ltb, [], ◌∷◌, ◌++◌, length, ℤ, pos, ◌+ℤ◌, ◌-ℤ◌, neg_ℤ, ◌≤ℤ◌, ◌<ℤ◌, sym, refl, ap, ◌∙◌, subst, ap₂, subst₂, arith, length-append}
use lib.IntN.{neg_ℤ-neg_ℤ}
use lib.Signed.{lt_z, lt_z_yes, lt_z_no}
use Rattle.space.specs.Pt.{Pt}
use Rattle.std.proofs.lemmas.Int.{ints, clamps}
use Rattle.std.proofs.lemmas.Bool.{ltb-true, ltb-false}
use Rattle.std.specs.Int.{int_max, int_min}
use Rattle.tree.specs.Parts.{Parts}
use Rattle.tree.specs.Prune.{turned_by, kept, pruned_join, prune}
use Rattle.tree.specs.Spell.{operator, spell}
use Rattle.tree.specs.Tree.{Op, union, common, cut, joined, gap, handed, Tree, leaf, join, turn, value}
use Rattle.tree.specs.Twins.{Twin, inside_out, uncut, union_swap, common_swap, in_first, in_second, same, back, after, TwinLaw, TwinsPruned}
use Rattle.tree.proofs.Wholes.{turn_value}

-- ---- values, for any fillet

union_turns : (f : ℕ → ℕ) (a b : ℤ) → joined union f a b ≡ joined union f b a
union_turns f a b =
    let gaps : gap a b ≡ gap b a = omega (arith, ints) in
    let least : int_min a b ≡ int_min b a = omega (arith, ints, clamps) in
    ap₂ (λ m g. m -ℤ pos (f g)) least gaps

common_turns : (f : ℕ → ℕ) (a b : ℤ) → joined common f a b ≡ joined common f b a
common_turns f a b =
    let gaps : gap a b ≡ gap b a = omega (arith, ints) in
    let most : int_max a b ≡ int_max b a = omega (arith, ints, clamps) in
    ap₂ (λ m g. m +ℤ pos (f g)) most gaps

union_out : (f : ℕ → ℕ) (a b : ℤ) → joined union f a b ≡ neg_ℤ (joined common f (neg_ℤ a) (neg_ℤ b))
union_out f a b =
    let gaps : gap a b ≡ gap (neg_ℤ a) (neg_ℤ b) = omega (arith, ints) in
    let least : int_min a b ≡ neg_ℤ (int_max (neg_ℤ a) (neg_ℤ b)) = omega (arith, ints, clamps) in
    let out : (m : ℤ) (u : ℕ) → neg_ℤ m -ℤ pos u ≡ neg_ℤ (m +ℤ pos u) = λ m u. omega (arith, ints) in
    ap₂ (λ m g. m -ℤ pos (f g)) least gaps ∙ out (int_max (neg_ℤ a) (neg_ℤ b)) (f (gap (neg_ℤ a) (neg_ℤ b)))

handed_out : (turned : Bool) (v : ℤ) → handed turned (neg_ℤ v) ≡ handed (not turned) v
handed_out true v = neg_ℤ-neg_ℤ v
handed_out false v = refl

pub twin_value : {t u : Tree} → Twin t u → (P : Parts) (p : Pt) → value P t p ≡ value P u p
unfolding value
twin_value (inside_out turned n a b) P p =
    ap (handed turned) (union_out (P.fillet n) (value P a p) (value P b p))
    ∙ handed_out turned _
    ∙ ap₂ (λ x y. handed (not turned) (joined common (P.fillet n) x y)) (sym (turn_value P a p)) (sym (turn_value P b p))
twin_value (uncut turned n a b) P p = ap (λ y. handed turned (joined common (P.fillet n) (value P a p) y)) (sym (turn_value P b p))
twin_value (union_swap turned n a b) P p = ap (handed turned) (union_turns (P.fillet n) (value P a p) (value P b p))
twin_value (common_swap turned n a b) P p = ap (handed turned) (common_turns (P.fillet n) (value P a p) (value P b p))
twin_value (in_first op turned n b h) P p = ap (λ x. handed turned (joined op (P.fillet n) x (value P b p))) (twin_value h P p)
twin_value (in_second op turned n a h) P p = ap (λ y. handed turned (joined op (P.fillet n) (value P a p) y)) (twin_value h P p)
twin_value (same t) P p = refl
twin_value (back h) P p = sym (twin_value h P p)
twin_value (after h k) P p = twin_value h P p ∙ twin_value k P p

-- ---- lengths

pub join_length : (op : Op) (turned : Bool) (n : ℕ) (a b : Tree) → length (spell (join op turned n a b)) ≡ length (spell a) + length (spell b) + 1
unfolding spell
join_length op turned n a b =
    let o = operator op turned n ∷ [] in
    omega (arith, length-append (spell a) (spell b ++ o), length-append (spell b) o)

pub turn_length : (t : Tree) → length (spell (turn t)) ≡ length (spell t)
unfolding spell
turn_length (leaf turned n) = refl
turn_length (join op turned n a b) = join_length op (not turned) n a b ∙ sym (join_length op turned n a b)

pub twin_length : {t u : Tree} → Twin t u → length (spell t) ≡ length (spell u)
twin_length (inside_out turned n a b) = omega (arith, join_length union turned n a b, join_length common (not turned) n (turn a) (turn b), turn_length a, turn_length b)
twin_length (uncut turned n a b) = omega (arith, join_length cut turned n a b, join_length common turned n a (turn b), turn_length b)
twin_length (union_swap turned n a b) = omega (arith, join_length union turned n a b, join_length union turned n b a)
twin_length (common_swap turned n a b) = omega (arith, join_length common turned n a b, join_length common turned n b a)
twin_length (in_first op turned n {a} {a'} b h) = omega (arith, join_length op turned n a b, join_length op turned n a' b, twin_length h)
twin_length (in_second op turned n a {b} {b'} h) = omega (arith, join_length op turned n a b, join_length op turned n a b', twin_length h)
twin_length (same t) = refl
twin_length (back h) = sym (twin_length h)
twin_length (after h k) = twin_length h ∙ twin_length k

pub twin_law : TwinLaw
twin_law t u h = (twin_value h, twin_length h)

-- ---- turning twins over

not_not : (b : Bool) → not (not b) ≡ b
not_not true = refl
not_not false = refl

turn_turn : (t : Tree) → turn (turn t) ≡ t
turn_turn (leaf turned n) = ap (λ b. leaf b n) (not_not turned)
turn_turn (join op turned n a b) = ap (λ c. join op c n a b) (not_not turned)

turn_twin : {t u : Tree} → Twin t u → Twin (turn t) (turn u)
turn_twin (inside_out turned n a b) = inside_out (not turned) n a b
turn_twin (uncut turned n a b) = uncut (not turned) n a b
turn_twin (union_swap turned n a b) = union_swap (not turned) n a b
turn_twin (common_swap turned n a b) = common_swap (not turned) n a b
turn_twin (in_first op turned n b h) = in_first op (not turned) n b h
turn_twin (in_second op turned n a h) = in_second op (not turned) n a h
turn_twin (same t) = same (turn t)
turn_twin (back h) = back (turn_twin h)
turn_twin (after h k) = after (turn_twin h) (turn_twin k)

turned_by_twin : (turned : Bool) {t u : Tree} → Twin t u → Twin (turned_by turned t) (turned_by turned u)
turned_by_twin true h = turn_twin h
turned_by_twin false h = h

turned_by_not : (turned : Bool) (t : Tree) → turned_by (not turned) t ≡ turn (turned_by turned t)
turned_by_not true t = sym (turn_turn t)
turned_by_not false t = refl

turned_by_turn : (turned : Bool) (t : Tree) → turned_by (not turned) (turn t) ≡ turned_by turned t
turned_by_turn true t = refl
turned_by_turn false t = turn_turn t

path_twin : {t u : Tree} → t ≡ u → Twin t u
path_twin {t} {u} e = subst (λ x. Twin t x) e (same t)

-- ---- pruning twins

cond_twin : (less : Bool) {x x' y y' : Tree} → Twin x x' → Twin y y' → Twin (cond less x y) (cond less x' y')
cond_twin true h k = h
cond_twin false h k = k

kept_twin : (op : Op) (A B : ℤ) {a a' b b' : Tree} → Twin a a' → Twin b b' → Twin (kept op A B a b) (kept op A B a' b')
kept_twin union A B h k = cond_twin (lt_z A B) h k
kept_twin common A B h k = cond_twin (lt_z A B) k h
kept_twin cut A B h k = cond_twin (lt_z A B) k h

-- an operator over operands with the values A and B at the centre
abbrev at_centre : ℕ → Op → Bool → ℕ → ℤ → ℤ → Tree → Tree → Tree
at_centre limit op turned n A B a b = cond (ltb limit (gap A B)) (turned_by turned (kept op A B a b)) (join op turned n a b)

module _ (P : Parts) (centre : Pt) (R : ℕ) where
  join_twin : (op : Op) (turned : Bool) (n : ℕ) {a a' b b' : Tree} → Twin a a' → Twin b b' → Twin (pruned_join P centre R op turned n a b) (pruned_join P centre R op turned n a' b')
  join_twin op turned n {a} {a'} {b} {b'} h k =
      let limit = P.radius n + 2 * R in
      let A = value P a centre in
      let B = value P b centre in
      subst₂ (λ x y. Twin (at_centre limit op turned n A B a b) (at_centre limit op turned n x y a' b')) (twin_value h P centre) (twin_value k P centre)
      (cond_twin (ltb limit (gap A B)) (turned_by_twin turned (kept_twin op A B h k)) (after (in_first op turned n b h) (in_second op turned n a' k)))

  -- where an operator drops out its operands are unequal, so an exchange keeps the same one
  swap_kept : (A B : ℤ) (x y : Tree) → 0 < gap A B → cond (lt_z A B) x y ≡ cond (lt_z B A) y x
  swap_kept A B x y apart = go (lt_z A B) (lt_z B A) refl refl
    where
      go : (p q : Bool) → lt_z A B ≡ p → lt_z B A ≡ q → cond p x y ≡ cond q y x
      go true false e f = refl
      go false true e f = refl
      go true true e f = let u : A <ℤ B = lt_z_yes (rw e tt) in let o : B <ℤ A = lt_z_yes (rw f tt) in absurd (let c : ⊥ = omega (arith, ints) in c)
      go false false e f = let u : B ≤ℤ A = lt_z_no (rw e tt) in let o : A ≤ℤ B = lt_z_no (rw f tt) in absurd (let c : ⊥ = omega (arith, ints) in c)

  swap_twin : (op : Op) (turned : Bool) (n : ℕ) (a b : Tree) → ((A B : ℤ) → 0 < gap A B → kept op A B a b ≡ kept op B A b a) → Twin (join op turned n a b) (join op turned n b a) → Twin (pruned_join P centre R op turned n a b) (pruned_join P centre R op turned n b a)
  swap_twin op turned n a b keeps whole =
      let limit = P.radius n + 2 * R in
      let A = value P a centre in
      let B = value P b centre in
      let gaps : gap A B ≡ gap B A = omega (arith, ints) in
      subst (λ g. Twin (at_centre limit op turned n A B a b) (cond (ltb limit g) (turned_by turned (kept op B A b a)) (join op turned n b a))) gaps (go limit A B (ltb limit (gap A B)) refl)
    where
      go : (limit : ℕ) (A B : ℤ) (out : Bool) → ltb limit (gap A B) ≡ out → Twin (cond out (turned_by turned (kept op A B a b)) (join op turned n a b)) (cond out (turned_by turned (kept op B A b a)) (join op turned n b a))
      go limit A B true e = let wide = ltb-true limit (gap A B) e in path_twin (ap (turned_by turned) (keeps A B (omega arith)))
      go limit A B false e = whole

  out_twin : (turned : Bool) (n : ℕ) (a b : Tree) → Twin (pruned_join P centre R union turned n a b) (pruned_join P centre R common (not turned) n (turn a) (turn b))
  out_twin turned n a b =
      let limit = P.radius n + 2 * R in
      let A = value P a centre in
      let B = value P b centre in
      subst₂ (λ x y. Twin (at_centre limit union turned n A B a b) (at_centre limit common (not turned) n x y (turn a) (turn b))) (sym (turn_value P a centre)) (sym (turn_value P b centre))
      (go limit A B (ltb limit (gap A B)) (ltb limit (gap (neg_ℤ A) (neg_ℤ B))) refl refl)
    where
      opposite : (A B : ℤ) → 0 < gap A B → turned_by turned (cond (lt_z A B) a b) ≡ turned_by (not turned) (cond (lt_z (neg_ℤ A) (neg_ℤ B)) (turn b) (turn a))
      opposite A B apart = pick (lt_z A B) (lt_z (neg_ℤ A) (neg_ℤ B)) refl refl
        where
          pick : (p q : Bool) → lt_z A B ≡ p → lt_z (neg_ℤ A) (neg_ℤ B) ≡ q → turned_by turned (cond p a b) ≡ turned_by (not turned) (cond q (turn b) (turn a))
          pick true false e f = sym (turned_by_turn turned a)
          pick false true e f = sym (turned_by_turn turned b)
          pick true true e f = let u : A <ℤ B = lt_z_yes (rw e tt) in let o : neg_ℤ A <ℤ neg_ℤ B = lt_z_yes (rw f tt) in absurd (let c : ⊥ = omega (arith, ints) in c)
          pick false false e f = let u : B ≤ℤ A = lt_z_no (rw e tt) in let o : neg_ℤ B ≤ℤ neg_ℤ A = lt_z_no (rw f tt) in absurd (let c : ⊥ = omega (arith, ints) in c)

      go : (limit : ℕ) (A B : ℤ) (p q : Bool) → ltb limit (gap A B) ≡ p → ltb limit (gap (neg_ℤ A) (neg_ℤ B)) ≡ q → Twin (cond p (turned_by turned (kept union A B a b)) (join union turned n a b)) (cond q (turned_by (not turned) (kept common (neg_ℤ A) (neg_ℤ B) (turn a) (turn b))) (join common (not turned) n (turn a) (turn b)))
      go limit A B true true e f = let wide = ltb-true limit (gap A B) e in path_twin (opposite A B (omega arith))
      go limit A B false false e f = inside_out turned n a b
      go limit A B true false e f = let w = ltb-true limit (gap A B) e in let v = ltb-false limit (gap (neg_ℤ A) (neg_ℤ B)) f in absurd (let c : ⊥ = omega (arith, ints) in c)
      go limit A B false true e f = let w = ltb-false limit (gap A B) e in let v = ltb-true limit (gap (neg_ℤ A) (neg_ℤ B)) f in absurd (let c : ⊥ = omega (arith, ints) in c)

  join_turn : (op : Op) (turned : Bool) (n : ℕ) (a b : Tree) → pruned_join P centre R op (not turned) n a b ≡ turn (pruned_join P centre R op turned n a b)
  join_turn op turned n a b = go (ltb (P.radius n + 2 * R) (gap (value P a centre) (value P b centre)))
    where
      go : (out : Bool) → cond out (turned_by (not turned) (kept op (value P a centre) (value P b centre) a b)) (join op (not turned) n a b) ≡ turn (cond out (turned_by turned (kept op (value P a centre) (value P b centre) a b)) (join op turned n a b))
      go true = turned_by_not turned _
      go false = refl

  pub prune_turn : (t : Tree) → prune P centre R (turn t) ≡ turn (prune P centre R t)
  unfolding prune
  prune_turn (leaf turned n) = refl
  prune_turn (join union turned n a b) = join_turn union turned n _ _
  prune_turn (join common turned n a b) = join_turn common turned n _ _
  prune_turn (join cut turned n a b) = join_turn common turned n _ _

  pub prune_twin : {t u : Tree} → Twin t u → Twin (prune P centre R t) (prune P centre R u)
  unfolding prune
  prune_twin (inside_out turned n a b) =
      subst₂ (λ x y. Twin (pruned_join P centre R union turned n (prune P centre R a) (prune P centre R b)) (pruned_join P centre R common (not turned) n x y)) (sym (prune_turn a)) (sym (prune_turn b))
      (out_twin turned n (prune P centre R a) (prune P centre R b))
  prune_twin (uncut turned n a b) = path_twin (ap (pruned_join P centre R common turned n (prune P centre R a)) (sym (prune_turn b)))
  prune_twin (union_swap turned n a b) =
      swap_twin union turned n (prune P centre R a) (prune P centre R b) (λ A B apart. swap_kept A B (prune P centre R a) (prune P centre R b) apart) (union_swap turned n (prune P centre R a) (prune P centre R b))
  prune_twin (common_swap turned n a b) =
      swap_twin common turned n (prune P centre R a) (prune P centre R b) (λ A B apart. swap_kept A B (prune P centre R b) (prune P centre R a) apart) (common_swap turned n (prune P centre R a) (prune P centre R b))
  prune_twin (in_first union turned n b h) = join_twin union turned n (prune_twin h) (same _)
  prune_twin (in_first common turned n b h) = join_twin common turned n (prune_twin h) (same _)
  prune_twin (in_first cut turned n b h) = join_twin common turned n (prune_twin h) (same _)
  prune_twin (in_second union turned n a h) = join_twin union turned n (same _) (prune_twin h)
  prune_twin (in_second common turned n a h) = join_twin common turned n (same _) (prune_twin h)
  prune_twin (in_second cut turned n a h) = join_twin common turned n (same _) (turn_twin (prune_twin h))
  prune_twin (same t) = same _
  prune_twin (back h) = back (prune_twin h)
  prune_twin (after h k) = after (prune_twin h) (prune_twin k)

pub twins_pruned : TwinsPruned
twins_pruned P centre R t u h = prune_twin P centre R h
