-- The house joint: its radius and its fillet. Assumes nothing.
use Rattle.std.specs.Prelude.{ℕ, ◌-◌, ◌*◌, ◌/◌}
use Rattle.joints.specs.declared.house.HouseJoint.{HouseJoint}
use Rattle.joints.specs.declared.house.HouseJoint.TheVariants.{Sharp, Rounded}

-- (k - gap)² / 4k. The difference stops at 0, so this is 0 from gap k on.
abbrev pub rounded_fillet : ℕ → ℕ → ℕ
rounded_fillet k gap = (k - gap) * (k - gap) / (4 * k)

abbrev pub house_radius : HouseJoint → ℕ
house_radius Sharp = 0
house_radius (Rounded r) = r.k

abbrev pub house_fillet : HouseJoint → ℕ → ℕ
house_fillet Sharp gap = 0
house_fillet (Rounded r) gap = rounded_fillet r.k gap
