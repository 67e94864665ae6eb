-- Twins have the same gaps. Assumes nothing.
use Rattle.std.proofs.Common.{◌≡◌, ℕ, ◌+◌, cond, ◌&&◌, eqb, ℤ, neg_ℤ, sym, refl, ap, ◌∙◌, ap₂, add_comm, arith}
use Rattle.space.specs.Pt.{Pt}
use Rattle.std.proofs.lemmas.Int.{ints}
use Rattle.tree.specs.Parts.{Parts}
use Rattle.tree.specs.Tree.{gap, Tree, leaf, join, turn, value}
use Rattle.tree.specs.Twins.{Twin, inside_out, uncut, union_swap, common_swap, in_first, in_second, same, back, after}
use Rattle.tree.proofs.Twinning.{twin_value}
use Rattle.tree.proofs.Wholes.{turn_value}
use Rattle.paths.specs.TwinGaps.{operator_gap, gaps_like, TwinGaps}

gap_swaps : (a b : ℤ) → gap a b ≡ gap b a
gap_swaps a b = omega (arith, ints)

gap_turns : (a b : ℤ) → gap a b ≡ gap (neg_ℤ a) (neg_ℤ b)
gap_turns a b = omega (arith, ints)

module _ (P : Parts) (p : Pt) (n g : ℕ) where
  turn_gaps : (t : Tree) → gaps_like P p n g (turn t) ≡ gaps_like P p n g t
  unfolding gaps_like
  turn_gaps (leaf turned m) = refl
  turn_gaps (join op turned m a b) = refl

  -- an operator of joint m with the gap k, over operands that count x and y
  abbrev counted : (m k x y : ℕ) → ℕ
  counted m k x y = cond (eqb m n && eqb k g) 1 0 + (x + y)

  counts : (m : ℕ) {k k' x x' y y' : ℕ} → k ≡ k' → x ≡ x' → y ≡ y' → counted m k x y ≡ counted m k' x' y'
  counts m e f h = λ i. counted m (e i) (f i) (h i)

  swapped : (m : ℕ) (a b : Tree) → counted m (gap (value P a p) (value P b p)) (gaps_like P p n g a) (gaps_like P p n g b) ≡ counted m (gap (value P b p) (value P a p)) (gaps_like P p n g b) (gaps_like P p n g a)
  swapped m a b = ap₂ (λ k s. cond (eqb m n && eqb k g) 1 0 + s) (gap_swaps (value P a p) (value P b p)) (add_comm (gaps_like P p n g a) (gaps_like P p n g b))

  twin_gap : {t u : Tree} → Twin t u → gaps_like P p n g t ≡ gaps_like P p n g u
  unfolding gaps_like
  twin_gap (inside_out turned m a b) =
      counts m (gap_turns (value P a p) (value P b p) ∙ ap₂ gap (sym (turn_value P a p)) (sym (turn_value P b p))) (sym (turn_gaps a)) (sym (turn_gaps b))
  twin_gap (uncut turned m a b) = counts m (ap (gap (value P a p)) (sym (turn_value P b p))) refl (sym (turn_gaps b))
  twin_gap (union_swap turned m a b) = swapped m a b
  twin_gap (common_swap turned m a b) = swapped m a b
  twin_gap (in_first op turned m b h) = counts m (ap (λ v. operator_gap op v (value P b p)) (twin_value h P p)) (twin_gap h) refl
  twin_gap (in_second op turned m a h) = counts m (ap (operator_gap op (value P a p)) (twin_value h P p)) refl (twin_gap h)
  twin_gap (same t) = refl
  twin_gap (back h) = sym (twin_gap h)
  twin_gap (after h k) = twin_gap h ∙ twin_gap k

pub twin_gaps : TwinGaps
twin_gaps t u twin P p n g = twin_gap P p n g twin
