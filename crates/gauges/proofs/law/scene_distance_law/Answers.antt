use Rattle.gauges.specs.Scenes.{scene_distance_law}
use Rattle.gauges.proofs.law.scene_distance_law.Goals as goal

pub returns : goal.returns
returns c = scene_distance_law
