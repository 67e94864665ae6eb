-- The distance of a scene as one number for each point. Assumes nothing.
use Rattle.std.specs.Prelude.{◌≡◌, true, List, [], ℤ}
use Rattle.space.specs.Pt.{Pt}
use Rattle.tree.specs.Distance.{Distance}
use Rattle.tree.specs.Order.{in_order}
use Rattle.tree.specs.Parts.{Parts}
use Rattle.tree.specs.Spell.{Symbol}
use Rattle.tree.specs.Stepped.{stepped, run_by, on_top}

-- the value that is on top once the list is worked out
unfoldable pub scene_distance : Parts → List Symbol → Pt → ℤ
scene_distance P l p = on_top (run_by (stepped P p) l [])

-- what it is for: the distance that an accepted list gives at a point is this number and no other
abbrev pub SceneDistanceLaw : Type 0
SceneDistanceLaw =
    (P : Parts) (l : List Symbol) (p : Pt) (v : ℤ) → in_order l ≡ true
    → (Distance P l p v → v ≡ scene_distance P l p) × (v ≡ scene_distance P l p → Distance P l p v)
