use Rattle.std.proofs.Common.{arith}
use Rattle.joints.specs.Fillets.{soft_divisor, soft_law}
use Rattle.joints.proofs.soft.SoftJointJoint.fillet.Goals as goal

pub nonzero_div-result : goal.nonzero_div-result
nonzero_div-result c = let r = c.args.self.now.0 in rw c.from-k.ensures (soft_divisor r.k r.positive)

-- the fillet is at most half of k
pub overflow_cast-result : goal.overflow_cast-result
overflow_cast-result c =
    let r = c.args.self.now.0 in
    let half = (soft_law r.k r.positive r.limited).half c.args.gap in
    simp (c.saturating_sub-m.ensures, c.from-k.ensures, c.from.ensures) (omega arith)
