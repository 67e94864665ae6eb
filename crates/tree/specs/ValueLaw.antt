-- What every operator and every tree keeps. Assumes nothing.
use Rattle.std.specs.Prelude.{◌≡◌, ℕ, ℤ, ◌+ℤ◌, neg_ℤ, ◌≤ℤ◌}
use Rattle.space.specs.Laws.{DistanceLaw, FilletLaw}
use Rattle.tree.specs.Parts.{Parts, Lawful}
use Rattle.tree.specs.Tree.{Op, union, common, cut, joined, Tree, value}

-- Union and common are monotone in both operands and shift with them, for every fillet under the law;
-- a cut is the common of the first and the negated second.
pub record OperatorLaw (fillet : ℕ → ℕ) (op : Op) : Type 0 where
  pub rises : (a a' b b' : ℤ) → a ≤ℤ a' → b ≤ℤ b' → joined op fillet a b ≤ℤ joined op fillet a' b'
  pub shifts : (a b t : ℤ) → joined op fillet (a +ℤ t) (b +ℤ t) ≡ joined op fillet a b +ℤ t

abbrev pub OperatorsLaw : Type 0
OperatorsLaw =
    (k : ℕ) (fillet : ℕ → ℕ) → FilletLaw k fillet
    → OperatorLaw fillet union × OperatorLaw fillet common × ((a b : ℤ) → joined cut fillet a b ≡ joined common fillet a (neg_ℤ b))

-- every tree's value obeys the distance law
abbrev pub ValueLaw : Type 0
ValueLaw = (P : Parts) → Lawful P → (t : Tree) → DistanceLaw (value P t)
