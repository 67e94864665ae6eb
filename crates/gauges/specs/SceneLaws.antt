-- The whole scene keeps the laws of a gauge. Assumes nothing.
use Rattle.std.specs.Prelude.{map}
use Rattle.gauges.specs.Exact.{ExactReads}
use Rattle.gauges.specs.Exacts.{exact_laws}
use Rattle.gauges.specs.SceneMeans.{scene_means}
use Rattle.gauges.specs.Scenes.{scene_near}
use Rattle.joints.specs.declared.joint.Joint as joint
use Rattle.march.specs.Laws.{GaugeLaws}
use Rattle.scene.specs.Meant.{placed}
use Rattle.scene.specs.declared.scene.Scene.{Scene}
use Rattle.solids.specs.declared.solid.Solid as solid
use Rattle.space.specs.Laws.{DistanceLaw, DistanceRange, FilletLaw}
use Rattle.tree.proofs.Lawfuls.{parts_lawful}
use Rattle.tree.specs.Rows.{node_symbol}

module _ {S J : Type 0} (s : solid.Ghosts S) (j : joint.Ghosts J) (near : (x : S) → DistanceLaw (s.dist x)) (ranged : (x : S) → DistanceRange (s.dist x)) (smooth : (x : J) → FilletLaw (j.radius x) (j.fillet x)) where
  -- of a kind of gauge that lends a scene
  pub scene_laws : {W : Type 0} (scene : W → Scene S J) → GaugeLaws (λ (w : W). Unit {0}) (λ w. scene_means s j (scene w)) (ExactReads (λ w. scene_means s j (scene w)))
  scene_laws {W} scene =
      exact_laws (λ (w : W). Unit {0}) (λ w. scene_means s j (scene w))
      (λ w _.
      let c = scene w in
      scene_near (placed s j c) (map node_symbol c.nodes.now) c.ordered
      (parts_lawful s.dist j.radius j.fillet near ranged smooth c.solids.now c.joints.now))
