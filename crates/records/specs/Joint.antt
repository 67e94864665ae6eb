-- The record of a joint, 4 bytes: its form and its radius. Assumes nothing.
use Rattle.std.specs.Prelude.{ℕ, List, ◌++◌}
use Rattle.joints.specs.declared.house.HouseJoint.{HouseJoint}
use Rattle.joints.specs.declared.house.HouseJoint.TheVariants.{Sharp, Rounded}
use Rattle.joints.specs.declared.soft.SoftJoint.{SoftJoint}
use Rattle.records.specs.LittleEndian.{u16_le}
use Rattle.records.specs.declared.joint.RawJoint.{RawJoint}

abbrev pub raw_joint_record : RawJoint → List ℕ
raw_joint_record j = u16_le j.form ++ u16_le j.k

abbrev pub house_fields : HouseJoint → RawJoint
house_fields Sharp = record { form = 0; k = 0 }
house_fields (Rounded r) = record { form = 1; k = r.k }

abbrev pub soft_fields : SoftJoint → RawJoint
soft_fields j = record { form = 2; k = j.0.k }

abbrev pub house_record : HouseJoint → List ℕ
house_record j = raw_joint_record (house_fields j)

abbrev pub soft_record : SoftJoint → List ℕ
soft_record j = raw_joint_record (soft_fields j)
