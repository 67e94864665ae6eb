-- The gaps at the operators of twins. Assumes nothing.
use Rattle.std.specs.Prelude.{◌≡◌, ℕ, ◌+◌, cond, ◌&&◌, ℤ, neg_ℤ, ◌==◌}
use Rattle.space.specs.Pt.{Pt}
use Rattle.tree.specs.Parts.{Parts}
use Rattle.tree.specs.Tree.{Op, union, common, cut, gap, Tree, leaf, join, value}
use Rattle.tree.specs.Twins.{Twin}

-- the gap of an operator's operands with the values a and b; a cut negates the second
abbrev pub operator_gap : Op → ℤ → ℤ → ℕ
operator_gap union a b = gap a b
operator_gap common a b = gap a b
operator_gap cut a b = gap a (neg_ℤ b)

-- how many operators of a tree have the joint n and, at the point, the gap g
unfoldable pub gaps_like : Parts → Pt → (n g : ℕ) → Tree → ℕ
gaps_like P p n g (leaf turned m) = 0
gaps_like P p n g (join op turned m a b) =
    let here = cond (m == n && operator_gap op (value P a p) (value P b p) == g) 1 0 in
    here + (gaps_like P p n g a + gaps_like P p n g b)

-- Twins have equally many operators of each joint and gap, at every point.
abbrev pub TwinGaps : Type 0
TwinGaps = (t u : Tree) → Twin t u → (P : Parts) (p : Pt) (n g : ℕ) → gaps_like P p n g t ≡ gaps_like P p n g u
