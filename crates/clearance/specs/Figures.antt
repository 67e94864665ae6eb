-- Figures worked out by hand, in the definitions that the contracts cite. Assumes nothing.
use Rattle.std.specs.Prelude.{◌≡◌, ℕ, Bool, map, ℤ, pos, negsuc}
use Rattle.cells.specs.Cells.{radius}
use Rattle.clearance.specs.Examples.{pt, ball, block, plane, drum, probed, rounded, soft, cut_parts, cut_nodes, sharp_parts}
use Rattle.joints.specs.House.{house_fillet}
use Rattle.joints.specs.Soft.{soft_radius, soft_fillet}
use Rattle.paths.specs.Held.{near, far, marked}
use Rattle.solids.specs.Catalogue.{catalogue_distance}
use Rattle.solids.specs.Probed.{probed_distance}
use Rattle.space.specs.Pt.{Pt}
use Rattle.tree.specs.Distance.{Distance}
use Rattle.tree.specs.Prune.{turned_by, kept, pruned_join}
use Rattle.tree.specs.Rows.{node_symbol}
use Rattle.tree.specs.Tree.{Op, Tree, join, value, gap}

-- At level 4, an operator with a sharp joint over operands with this gap at the centre: it stays, or it drops out and
-- one operand is kept, turned with it.
abbrev pub Stays : ℕ → Type 0
Stays g =
    (distance : ℕ → Pt → ℤ) (centre : Pt) (op : Op) (turned : Bool) (a b : Tree)
    → gap (value (sharp_parts distance) a centre) (value (sharp_parts distance) b centre) ≡ g
    → pruned_join (sharp_parts distance) centre (radius 4) op turned 0 a b ≡ join op turned 0 a b

abbrev pub Drops : ℕ → Type 0
Drops g =
    (distance : ℕ → Pt → ℤ) (centre : Pt) (op : Op) (turned : Bool) (a b : Tree)
    → gap (value (sharp_parts distance) a centre) (value (sharp_parts distance) b centre) ≡ g
    → pruned_join (sharp_parts distance) centre (radius 4) op turned 0 a b ≡ turned_by turned (kept op (value (sharp_parts distance) a centre) (value (sharp_parts distance) b centre) a b)

-- `negsuc n` is -(n + 1)
pub record Figures : Type 0 where
  pub ball_figure : catalogue_distance ball (pt 0 0 200) ≡ pos 163
  pub block_figure : catalogue_distance block (pt 128 128 128) ≡ pos 48
  pub plane_figure : catalogue_distance plane (pt 0 0 0) ≡ negsuc 1
  pub drum_figure : catalogue_distance drum (pt 12 5 9) ≡ pos 4
  pub probed_figure : probed_distance probed (pt 7 0 0) ≡ pos 1
  pub rounded_0 : house_fillet rounded 0 ≡ 2
  pub rounded_2 : house_fillet rounded 2 ≡ 1
  pub rounded_3 : house_fillet rounded 3 ≡ 0
  pub soft_0 : soft_fillet (soft_radius soft) 0 ≡ 2
  pub cut_inside : Distance cut_parts (map node_symbol cut_nodes) (pt 0 0 0) (negsuc 39)
  pub cut_outside : Distance cut_parts (map node_symbol cut_nodes) (pt 100 0 0) (pos 60)
  pub gap_112 : Stays 112
  pub gap_113 : Drops 113
  -- there, with far factor 2 and this value at the centre
  pub value_112 : (t : Tree) → marked 2 (radius 4) (pos 112) t ≡ near t
  pub value_113 : (t : Tree) → marked 2 (radius 4) (pos 113) t ≡ far (pos 57)
  pub value_minus_112 : (t : Tree) → marked 2 (radius 4) (negsuc 111) t ≡ near t
  pub value_minus_113 : (t : Tree) → marked 2 (radius 4) (negsuc 112) t ≡ far (negsuc 56)
