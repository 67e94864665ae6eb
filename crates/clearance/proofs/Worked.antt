-- The figures, one by one. Roots do not compute; each is shown to be the only number it can be. Assumes nothing.
use Rattle.std.proofs.Common.{◌≡◌, ℕ, suc, ◌+◌, ◌*◌, min, Bool, true, false, cond, T, ltb, leb, map, ℤ, pos, negsuc, ◌-ℤ◌, sym, refl, ap, ◌∙◌, lit<, lit≤}
use Rattle.cells.specs.Cells.{radius}
use Rattle.clearance.specs.Examples.{pt, ball, block, plane, drum, probed, cut_parts, cut_nodes, sharp_parts}
use Rattle.clearance.specs.Figures.{Stays, Drops}
use Rattle.paths.specs.Held.{near, far, marked}
use Rattle.solids.specs.Block.{box_distance}
use Rattle.solids.specs.Catalogue.{catalogue_distance}
use Rattle.solids.specs.Drum.{drum_distance}
use Rattle.solids.specs.Plane.{plane_distance}
use Rattle.solids.specs.Probed.{probed_distance}
use Rattle.space.proofs.Roots.{root_unique}
use Rattle.space.specs.Pt.{Pt}
use Rattle.space.specs.Root.{root}
use Rattle.std.specs.Int.{int_max}
use Rattle.tree.specs.Distance.{Distance}
use Rattle.tree.specs.Prune.{turned_by, kept, pruned_join}
use Rattle.tree.specs.Rows.{node_symbol}
use Rattle.tree.specs.Spell.{spell}
use Rattle.tree.specs.Tree.{Op, Tree, leaf, join, cut, joined, gap, value}

-- the root of a number that is written out
root_of : (n r : ℕ) → T (leb (r * r) n) → T (ltb n (suc r * suc r)) → root n ≡ r
root_of n r low high = sym (root_unique n r (lit≤ low, lit< high))

pub ball_figure : catalogue_distance ball (pt 0 0 200) ≡ pos 163
ball_figure = ap (λ (r : ℕ). pos r -ℤ pos 60) (root_of 50000 223 tt tt)

pub block_figure : catalogue_distance block (pt 128 128 128) ≡ pos 48
unfolding box_distance
block_figure = ap (λ (r : ℕ). pos r -ℤ pos 0) (root_of 2352 48 tt tt)

pub plane_figure : catalogue_distance plane (pt 0 0 0) ≡ negsuc 1
unfolding plane_distance
plane_figure = refl

pub drum_figure : catalogue_distance drum (pt 12 5 9) ≡ pos 4
unfolding drum_distance
drum_figure = ap (λ (r : ℕ). int_max (pos r -ℤ pos 10) (pos 4)) (root_of 169 13 tt tt)

pub probed_figure : probed_distance probed (pt 7 0 0) ≡ pos 1
unfolding probed_distance
probed_figure = λ i. pos (min (root_of 49 7 tt tt i) (root_of 9 3 tt tt i)) -ℤ pos 2

-- the tree that the nodes of the cut spell
abbrev cut_tree : Tree
cut_tree = join cut false 0 (leaf false 0) (leaf false 1)

cut_spelled : spell cut_tree ≡ map node_symbol cut_nodes
unfolding spell
cut_spelled = refl

cut_value : (x : ℕ) (a b : ℤ) → catalogue_distance block (pt x 0 0) ≡ a → catalogue_distance ball (pt x 0 0) ≡ b → value cut_parts cut_tree (pt x 0 0) ≡ joined cut (λ gap. 0) a b
unfolding value
cut_value x a b ea eb = λ i. joined cut (λ gap. 0) (ea i) (eb i)

block_inside : catalogue_distance block (pt 0 0 0) ≡ negsuc 99
unfolding box_distance
block_inside = refl

block_on : catalogue_distance block (pt 100 0 0) ≡ pos 0
unfolding box_distance
block_on = refl

ball_outside : catalogue_distance ball (pt 0 0 0) ≡ pos 40
ball_outside = ap (λ (r : ℕ). pos r -ℤ pos 60) (root_of 10000 100 tt tt)

ball_centre : catalogue_distance ball (pt 100 0 0) ≡ negsuc 59
ball_centre = ap (λ (r : ℕ). pos r -ℤ pos 60) (root_of 0 0 tt tt)

pub cut_inside : Distance cut_parts (map node_symbol cut_nodes) (pt 0 0 0) (negsuc 39)
cut_inside = (cut_tree, cut_spelled, sym (cut_value 0 (negsuc 99) (pos 40) block_inside ball_outside))

pub cut_outside : Distance cut_parts (map node_symbol cut_nodes) (pt 100 0 0) (pos 60)
cut_outside = (cut_tree, cut_spelled, sym (cut_value 100 (pos 0) (negsuc 59) block_on ball_centre))

-- ---- at level 4

module _ (distance : ℕ → Pt → ℤ) (centre : Pt) (op : Op) (turned : Bool) (a b : Tree) where
  -- whether it drops out goes by the gap alone
  by_gap : (g : ℕ) (out : Bool) → ltb (0 + 2 * radius 4) g ≡ out → gap (value (sharp_parts distance) a centre) (value (sharp_parts distance) b centre) ≡ g → pruned_join (sharp_parts distance) centre (radius 4) op turned 0 a b ≡ cond out (turned_by turned (kept op (value (sharp_parts distance) a centre) (value (sharp_parts distance) b centre) a b)) (join op turned 0 a b)
  by_gap g out e same =
      ap (λ o. cond o (turned_by turned (kept op (value (sharp_parts distance) a centre) (value (sharp_parts distance) b centre) a b)) (join op turned 0 a b)) (ap (λ x. ltb (0 + 2 * radius 4) x) same ∙ e)

pub gap_112 : Stays 112
unfolding radius
gap_112 distance centre op turned a b same = by_gap distance centre op turned a b 112 false refl same

pub gap_113 : Drops 113
unfolding radius
gap_113 distance centre op turned a b same = by_gap distance centre op turned a b 113 true refl same

pub value_112 : (t : Tree) → marked 2 (radius 4) (pos 112) t ≡ near t
unfolding radius
value_112 t = refl

pub value_113 : (t : Tree) → marked 2 (radius 4) (pos 113) t ≡ far (pos 57)
unfolding radius
value_113 t = refl

pub value_minus_112 : (t : Tree) → marked 2 (radius 4) (negsuc 111) t ≡ near t
unfolding radius
value_minus_112 t = refl

pub value_minus_113 : (t : Tree) → marked 2 (radius 4) (negsuc 112) t ≡ far (negsuc 56)
unfolding radius
value_minus_113 t = refl
