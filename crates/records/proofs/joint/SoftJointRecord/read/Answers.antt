use Rattle.records.specs.Joint.{soft_fields}
use Rattle.records.proofs.joint.SoftJointRecord.read.Goals as goal

pub returns-in_err-form : goal.returns-in_err-form
returns-in_err-form c =
    rw c.from_residual.ensures (λ j e. c.in_err-form.ensures (soft_fields j) e)
