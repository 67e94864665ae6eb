use Rattle.setpoints.proofs.SetPoints.{set_points_law}
use Rattle.setpoints.proofs.set_points_law.Goals as goal

pub returns : goal.returns
returns c = set_points_law
