-- The soft joint: its radius and its fillet. Assumes nothing.
use Rattle.std.specs.Prelude.{ℕ, ◌-◌, ◌*◌, ◌/◌}
use Rattle.joints.specs.declared.soft.SoftJoint.{SoftJoint}

-- (k - gap)³ / 6k². The difference stops at 0, so this is 0 from gap k on.
abbrev pub soft_fillet : ℕ → ℕ → ℕ
soft_fillet k gap = (k - gap) * (k - gap) * (k - gap) / (6 * k * k)

abbrev pub soft_radius : SoftJoint → ℕ
soft_radius j = j.0.k
