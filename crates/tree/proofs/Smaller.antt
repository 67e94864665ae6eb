-- A pruned tree is not larger. Assumes nothing.
use Rattle.std.proofs.Common.{◌≡◌, ℕ, suc, ◌+◌, ◌*◌, ◌≤◌, max, Bool, true, false, cond, ltb, length, ℤ, refl, arith}
use lib.Signed.{lt_z}
use Rattle.space.specs.Pt.{Pt}
use Rattle.tree.specs.Order.{depth}
use Rattle.tree.specs.Parts.{Parts}
use Rattle.tree.specs.Prune.{turned_by, kept, pruned_join, prune}
use Rattle.tree.specs.Smaller.{SmallerLaw}
use Rattle.tree.specs.Spell.{spell}
use Rattle.tree.specs.Tree.{Op, union, common, cut, gap, Tree, leaf, join, turn, value}
use Rattle.tree.proofs.Twinning.{join_length, turn_length}

-- no longer and no deeper
pub record Within (t : Tree) (long deep : ℕ) : Type 0 where
  pub short : length (spell t) ≤ long
  pub flat : depth t ≤ deep

turn_depth : (t : Tree) → depth (turn t) ≡ depth t
unfolding depth
turn_depth (leaf turned n) = refl
turn_depth (join op turned n a b) = refl

turn_within : (t : Tree) (long deep : ℕ) → Within t long deep → Within (turn t) long deep
turn_within t long deep w = record { short = omega (arith, turn_length t, w.short); flat = omega (arith, turn_depth t, w.flat) }

turned_within : (turned : Bool) (t : Tree) (long deep : ℕ) → Within t long deep → Within (turned_by turned t) long deep
turned_within true t long deep w = turn_within t long deep w
turned_within false t long deep w = w

pick_within : (less : Bool) (x y : Tree) (long deep : ℕ) → Within x long deep → Within y long deep → Within (cond less x y) long deep
pick_within true x y long deep w v = w
pick_within false x y long deep w v = v

kept_within : (op : Op) (A B : ℤ) (a b : Tree) (long deep : ℕ) → Within a long deep → Within b long deep → Within (kept op A B a b) long deep
kept_within union A B a b long deep w v = pick_within (lt_z A B) a b long deep w v
kept_within common A B a b long deep w v = pick_within (lt_z A B) b a long deep v w
kept_within cut A B a b long deep w v = pick_within (lt_z A B) b a long deep v w

module _ (P : Parts) (centre : Pt) (R : ℕ) where
  -- an operator over operands that are within x and y
  join_within : (op op' : Op) (turned : Bool) (n : ℕ) (a b x y : Tree) → Within a (length (spell x)) (depth x) → Within b (length (spell y)) (depth y) → Within (pruned_join P centre R op turned n a b) (length (spell (join op' turned n x y))) (depth (join op' turned n x y))
  unfolding depth
  join_within op op' turned n a b x y w v = go (ltb (P.radius n + 2 * R) (gap (value P a centre) (value P b centre)))
    where
      long : ℕ
      long = length (spell (join op' turned n x y))

      a_in : Within a (length (spell (join op' turned n x y))) (max (depth x) (suc (depth y)))
      a_in = record { short = omega (arith, join_length op' turned n x y, w.short); flat = omega (arith, w.flat) }

      b_in : Within b (length (spell (join op' turned n x y))) (max (depth x) (suc (depth y)))
      b_in = record { short = omega (arith, join_length op' turned n x y, v.short); flat = omega (arith, v.flat) }

      go : (out : Bool) → Within (cond out (turned_by turned (kept op (value P a centre) (value P b centre) a b)) (join op turned n a b)) (length (spell (join op' turned n x y))) (max (depth x) (suc (depth y)))
      go true = turned_within turned _ _ _ (kept_within op (value P a centre) (value P b centre) a b _ _ a_in b_in)
      go false = record { short = omega (arith, join_length op turned n a b, join_length op' turned n x y, w.short, v.short); flat = omega (arith, w.flat, v.flat) }

  prune_within : (t : Tree) → Within (prune P centre R t) (length (spell t)) (depth t)
  unfolding prune
  prune_within (leaf turned n) = record { short = omega arith; flat = omega arith }
  prune_within (join union turned n a b) = join_within union union turned n _ _ a b (prune_within a) (prune_within b)
  prune_within (join common turned n a b) = join_within common common turned n _ _ a b (prune_within a) (prune_within b)
  prune_within (join cut turned n a b) = join_within common cut turned n _ _ a b (prune_within a) (turn_within _ _ _ (prune_within b))

pub smaller_law : SmallerLaw
smaller_law P centre R t = let w = prune_within P centre R t in (w.short, w.flat)
