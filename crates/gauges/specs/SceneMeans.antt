-- What a checked scene means at a point. Assumes nothing.
use Rattle.std.specs.Prelude.{map, ℤ}
use Rattle.gauges.specs.SceneDistance.{scene_distance}
use Rattle.joints.specs.declared.joint.Joint as joint
use Rattle.scene.specs.Meant.{placed}
use Rattle.scene.specs.declared.scene.Scene.{Scene}
use Rattle.solids.specs.declared.solid.Solid as solid
use Rattle.space.specs.Pt.{Pt}
use Rattle.tree.specs.Rows.{node_symbol}

-- the distance of the tree that its node table spells, over its solids and joints
abbrev pub scene_means : {S J : Type 0} → solid.Ghosts S → joint.Ghosts J → Scene S J → Pt → ℤ
scene_means s j c p = scene_distance (placed s j c) (map node_symbol c.nodes.now) p
