use Rattle.std.proofs.Common.{arith}
use Rattle.joints.specs.Fillets.{rounded_law}
use Rattle.joints.proofs.house.HouseJointJoint.fillet.Goals as goal

-- the fillet is at most half of k
pub overflow_cast-result : goal.overflow_cast-result
overflow_cast-result c =
    let r = c.in-Rounded.r in
    let half = (rounded_law r.k r.positive r.limited).half c.args.gap in
    simp (c.saturating_sub-m.ensures, c.from-k.ensures) (omega arith)
