-- The distance of an accepted list is the value of its tree. Assumes nothing.
use Rattle.std.proofs.Common.{◌≡◌, true, List, [], sym, ap, ◌∙◌, subst}
use mathlib.Core.Path.{fun_ext}
use Rattle.scene.proofs.Wholes.{from_in_order}
use Rattle.space.specs.Laws.{DistanceLaw}
use Rattle.space.specs.Pt.{Pt}
use Rattle.tree.proofs.Orders.{order_law}
use Rattle.tree.proofs.Runs.{run, run_tree}
use Rattle.tree.proofs.Values.{value_law}
use Rattle.tree.specs.Order.{in_order}
use Rattle.tree.specs.Parts.{Parts, Lawful}
use Rattle.tree.specs.Spell.{Symbol, spell}
use Rattle.tree.specs.Stepped.{on_top}
use Rattle.tree.specs.Tree.{Tree, value}
use Rattle.gauges.specs.SceneDistance.{scene_distance, SceneDistanceLaw}

-- the distance of a tree's list is the tree's value
pub of_tree : (P : Parts) (l : List Symbol) (t : Tree) → spell t ≡ l → (p : Pt) → scene_distance P l p ≡ value P t p
unfolding scene_distance
of_tree P l t e p = ap on_top (ap (λ m. run P p m []) (sym e) ∙ run_tree P p t)

pub scene_distance_law : SceneDistanceLaw
scene_distance_law P l p v fine =
    let found = (order_law l).0 (from_in_order l fine) in
    (λ d. d.2 ∙ sym (of_tree P l d.0 d.1 p), λ e. (found.0, found.1, e ∙ of_tree P l found.0 found.1 p))

-- so it obeys the distance law
pub scene_near : (P : Parts) (l : List Symbol) → in_order l ≡ true → Lawful P → DistanceLaw (scene_distance P l)
scene_near P l fine law =
    let found = (order_law l).0 (from_in_order l fine) in
    subst DistanceLaw (sym (fun_ext (of_tree P l found.0 found.1))) (value_law P law found.0)
