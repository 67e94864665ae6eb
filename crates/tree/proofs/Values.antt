-- Every tree's value obeys the distance law. Assumes nothing.
use Rattle.std.proofs.Common.{ℕ, ◌≤◌, Bool, true, false, ℤ, pos, ◌+ℤ◌, ◌-ℤ◌, neg_ℤ, nat_abs, ◌≤ℤ◌, refl, subst, arith}
use Rattle.space.specs.Laws.{FilletLaw}
use Rattle.std.proofs.lemmas.Int.{ints}
use Rattle.tree.specs.Tree.{Op, union, common, cut, joined, handed, leaf, join, value}
use Rattle.tree.specs.ValueLaw.{OperatorLaw, OperatorsLaw, ValueLaw}
use Rattle.tree.proofs.Operators.{union_rises, union_shifts, common_rises, common_shifts}

pub operators_law : OperatorsLaw
operators_law k fillet law = (
  record { rises = union_rises law; shifts = union_shifts law },
  record { rises = common_rises law; shifts = common_shifts law },
  λ a b. refl,
)

-- an operator's value moves by no more than its operands
module _ {f : ℕ → ℕ} (op : Op) (law : OperatorLaw f op) where
  half_near : (a a' b b' : ℤ) (r : ℕ) → nat_abs (a -ℤ a') ≤ r → nat_abs (b -ℤ b') ≤ r → joined op f a b ≤ℤ (joined op f a' b' +ℤ pos r)
  half_near a a' b b' r ha hb =
      let la : a ≤ℤ (a' +ℤ pos r) = omega (arith, ints) in
      let lb : b ≤ℤ (b' +ℤ pos r) = omega (arith, ints) in
      subst (λ x. joined op f a b ≤ℤ x) (law.shifts a' b' (pos r)) (law.rises a (a' +ℤ pos r) b (b' +ℤ pos r) la lb)

  operator_near : (a a' b b' : ℤ) (r : ℕ) → nat_abs (a -ℤ a') ≤ r → nat_abs (b -ℤ b') ≤ r → nat_abs (joined op f a b -ℤ joined op f a' b') ≤ r
  operator_near a a' b b' r ha hb =
      let ha' : nat_abs (a' -ℤ a) ≤ r = omega (arith, ints) in
      let hb' : nat_abs (b' -ℤ b) ≤ r = omega (arith, ints) in
      between (joined op f a b) (joined op f a' b') (half_near a a' b b' r ha hb) (half_near a' a b' b r ha' hb')
    where
      between : (x y : ℤ) → x ≤ℤ (y +ℤ pos r) → y ≤ℤ (x +ℤ pos r) → nat_abs (x -ℤ y) ≤ r
      between x y h h' = omega (arith, ints)

pub joined_near : {k : ℕ} {f : ℕ → ℕ} → FilletLaw k f → (op : Op) (a a' b b' : ℤ) (r : ℕ) → nat_abs (a -ℤ a') ≤ r → nat_abs (b -ℤ b') ≤ r → nat_abs (joined op f a b -ℤ joined op f a' b') ≤ r
joined_near {k} {f} law union a a' b b' r ha hb = operator_near union (operators_law k f law).0 a a' b b' r ha hb
joined_near {k} {f} law common a a' b b' r ha hb = operator_near common (operators_law k f law).1 a a' b b' r ha hb
joined_near {k} {f} law cut a a' b b' r ha hb =
    let hb' : nat_abs (neg_ℤ b -ℤ neg_ℤ b') ≤ r = omega (arith, ints) in
    operator_near common (operators_law k f law).1 a a' (neg_ℤ b) (neg_ℤ b') r ha hb'

pub handed_near : (turned : Bool) (v w : ℤ) (r : ℕ) → nat_abs (v -ℤ w) ≤ r → nat_abs (handed turned v -ℤ handed turned w) ≤ r
handed_near true v w r h = omega (arith, ints)
handed_near false v w r h = h

pub value_law : ValueLaw
unfolding value
value_law P law (leaf turned n) p q r p_in q_in close = handed_near turned _ _ r (law.near n p q r p_in q_in close)
value_law P law (join op turned n a b) p q r p_in q_in close =
    handed_near turned _ _ r
    (joined_near (law.smooth n) op _ _ _ _ r (value_law P law a p q r p_in q_in close) (value_law P law b p q r p_in q_in close))
