-- The fields of each kind of catalogue solid, and its record. Assumes nothing.
use Rattle.std.specs.Prelude.{ℕ, List, pos}
use Rattle.space.specs.Pt.{Pt}
use Rattle.solids.specs.AxisNumber.{axis_number}
use Rattle.solids.specs.declared.catalogue.Ball as ball
use Rattle.solids.specs.declared.catalogue.Block as block
use Rattle.solids.specs.declared.catalogue.CatalogueSolid.{CatalogueSolid}
use Rattle.solids.specs.declared.catalogue.CatalogueSolid.TheVariants.{Ball, Block, Plane, Drum}
use Rattle.solids.specs.declared.catalogue.Drum as drum
use Rattle.solids.specs.declared.catalogue.Plane as plane
use Rattle.records.specs.Raw.{raw_record}
use Rattle.records.specs.declared.raw.RawSolid.{RawSolid}

abbrev pub ball_fields : ball.Ball → RawSolid
ball_fields s = record {
  kind = 1;
  r = s.radius;
  x = s.centre.x;
  y = s.centre.y;
  z = s.centre.z;
  h0 = 0;
  h1 = 0;
  h2 = 0;
  d = pos 0;
}

abbrev pub block_fields : block.Block → RawSolid
block_fields s = record {
  kind = 2;
  r = s.radius;
  x = s.centre.x;
  y = s.centre.y;
  z = s.centre.z;
  h0 = s.half_x;
  h1 = s.half_y;
  h2 = s.half_z;
  d = pos 0;
}

abbrev pub plane_fields : plane.Plane → RawSolid
plane_fields s = record {
  kind = 3;
  r = s.«length»;
  x = s.normal_x;
  y = s.normal_y;
  z = s.normal_z;
  h0 = 0;
  h1 = 0;
  h2 = 0;
  d = s.offset;
}

abbrev pub drum_fields : drum.Drum → RawSolid
drum_fields s = record {
  kind = 4;
  r = s.radius;
  x = s.centre.x;
  y = s.centre.y;
  z = s.centre.z;
  h0 = s.half_height;
  h1 = axis_number s.axis;
  h2 = 0;
  d = pos 0;
}

-- the centre of a kind that has one
abbrev pub centre_field : RawSolid → Pt
centre_field s = record { x = s.x; y = s.y; z = s.z }

abbrev pub raw_of : CatalogueSolid → RawSolid
raw_of (Ball s) = ball_fields s
raw_of (Block s) = block_fields s
raw_of (Plane s) = plane_fields s
raw_of (Drum s) = drum_fields s

abbrev pub catalogue_record : CatalogueSolid → List ℕ
catalogue_record s = raw_record (raw_of s)
