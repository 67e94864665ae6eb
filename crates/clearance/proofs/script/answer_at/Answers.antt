use Rattle.std.proofs.Common.{w32, SFits, rules}
use Rattle.std.proofs.lemmas.Int.{to_z-of_z}
use Rattle.clearance.proofs.Replies.{answers_at}
use Rattle.clearance.proofs.script.answer_at.Goals as goal

pub returns : goal.returns
returns g c =
    let fits : SFits w32 c.distance.result = search rules in
    let distance = c.distance.ensures in
    answers_at c.args.x c.args.y c.args.z _ _ _ _ _ _ _ _ c.in_ok-p.ensures
    (to_z-of_z w32 _ c.ranges.x) (to_z-of_z w32 _ c.ranges.y) (to_z-of_z w32 _ c.ranges.z) distance (to_z-of_z w32 _ fits)
