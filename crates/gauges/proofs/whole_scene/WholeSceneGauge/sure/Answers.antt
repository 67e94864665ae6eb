use Rattle.std.proofs.Common.{map, ◌∙◌, w32}
use Rattle.space.specs.At.{at}
use Rattle.std.proofs.lemmas.Int.{to_z-of_z}
use Rattle.scene.specs.Meant.{placed}
use Rattle.tree.specs.Rows.{node_symbol}
use Rattle.gauges.specs.Scenes.{scene_distance_law}
use Rattle.gauges.proofs.whole_scene.WholeSceneGauge.sure.Goals as goal

pub returns : goal.returns
returns g c =
    let s = c.args.self.now.scene.now in
    let v = c.distance.result in
    to_z-of_z w32 v (record { sfits = c.distance.type_inv }) ∙ (scene_distance_law (placed g.S.Solid g.J.Joint s) (map node_symbol s.nodes.now) (at c.args.p) v s.ordered).0 c.distance.ensures
