-- Solids, joints and a scene that figures were worked out for by hand. Assumes nothing.
use Rattle.std.specs.Prelude.{ℕ, false, T, List, [], ◌∷◌, ℤ, pos, nat_le, refl}
use Rattle.std.proofs.Common.{lit≤, lit<}
use Rattle.joints.specs.House.{house_radius, house_fillet}
use Rattle.joints.specs.declared.house.HouseJoint.{HouseJoint}
use Rattle.joints.specs.declared.house.HouseJoint.TheVariants.{Sharp, Rounded}
use Rattle.joints.specs.declared.soft.SoftJoint.{SoftJoint}
use Rattle.solids.specs.Catalogue.{catalogue_distance}
use Rattle.solids.specs.declared.catalogue.Axis.TheVariants.{Z}
use Rattle.solids.specs.declared.catalogue.CatalogueSolid.{CatalogueSolid}
use Rattle.solids.specs.declared.catalogue.CatalogueSolid.TheVariants.{Ball, Block, Plane, Drum}
use Rattle.solids.specs.declared.probed.Probed.{Probed}
use Rattle.space.specs.Pt.{Pt}
use Rattle.space.specs.declared.point.Point.{Point}
use Rattle.tree.specs.Parts.{Parts, parts, joint_radius, joint_fillet}
use Rattle.tree.specs.declared.node.Node.{Node}
use Rattle.tree.specs.declared.node.NodeKind as kind

-- the point with these coordinates, as the rules see it, and as the code holds it
abbrev pub pt : ℕ → ℕ → ℕ → Pt
pt x y z = record { x = pos x; y = pos y; z = pos z }

abbrev pub point : (x y z : ℕ) → T (nat_le x 8191) → T (nat_le y 8191) → T (nat_le z 8191) → Point
point x y z x_low y_low z_low = record {
  x = pos x;
  y = pos y;
  z = pos z;
  x_in = (record { le = tt }, record { le = x_low });
  y_in = (record { le = tt }, record { le = y_low });
  z_in = (record { le = tt }, record { le = z_low });
}

abbrev pub origin : Point
origin = point 0 0 0 tt tt tt

abbrev pub ball : CatalogueSolid
ball = Ball (record { centre = point 100 0 0 tt tt tt; radius = 60; radius_in = lit≤ tt })

abbrev pub block : CatalogueSolid
block = Block (record {
  centre = origin;
  half_x = 100;
  half_y = 100;
  half_z = 100;
  radius = 0;
  half_x_in = lit≤ tt;
  half_y_in = lit≤ tt;
  half_z_in = lit≤ tt;
  radius_in = lit≤ tt;
})

abbrev pub plane : CatalogueSolid
plane = Plane (record {
  normal_x = pos 1;
  normal_y = pos 1;
  normal_z = pos 0;
  offset = pos 3;
  length = 2;
  normal_x_in = lit≤ tt;
  normal_y_in = lit≤ tt;
  normal_z_in = lit≤ tt;
  not_zero = lit< tt;
  long_enough = lit≤ tt;
  least = lit< tt;
  offset_in = lit≤ tt;
})

abbrev pub drum : CatalogueSolid
drum = Drum (record { centre = origin; radius = 10; half_height = 5; axis = Z; radius_in = lit≤ tt; half_height_in = lit≤ tt })

abbrev pub probed : Probed
probed = record {
  centres = origin ∷ point 10 0 0 tt tt tt ∷ origin ∷ origin ∷ origin ∷ origin ∷ origin ∷ origin ∷ [];
  count = 2;
  radius = 2;
  some = lit≤ tt;
  count_in = lit≤ tt;
  radius_in = lit≤ tt;
  unused = refl;
  eight = refl;
}

abbrev pub rounded : HouseJoint
rounded = Rounded (record { k = 8; positive = lit≤ tt; limited = lit≤ tt })

abbrev pub soft : SoftJoint
soft = record { 0 = record { k = 12; positive = lit≤ tt; limited = lit≤ tt } }

-- the block cut by the ball with a sharp joint
abbrev pub cut_parts : Parts
cut_parts = parts catalogue_distance house_radius house_fillet (block ∷ ball ∷ []) (Sharp ∷ [])

abbrev pub cut_nodes : List Node
cut_nodes =
    record { kind = kind.TheVariants.Solid; turned = false; number = 0 }
    ∷ record { kind = kind.TheVariants.Solid; turned = false; number = 1 }
    ∷ record { kind = kind.TheVariants.Cut; turned = false; number = 0 }
    ∷ []

-- any solids, with one sharp joint
abbrev pub sharp_parts : (ℕ → Pt → ℤ) → Parts
sharp_parts distance = record { distance = distance; radius = joint_radius house_radius (Sharp ∷ []); fillet = joint_fillet house_fillet (Sharp ∷ []) }
