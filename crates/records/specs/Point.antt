-- The record of a point, 6 bytes. Assumes nothing.
use Rattle.std.specs.Prelude.{ℕ, List, ◌++◌, pos}
use Rattle.space.specs.At.{at}
use Rattle.space.specs.Pt.{Pt}
use Rattle.space.specs.declared.point.Point.{Point}
use Rattle.records.specs.LittleEndian.{i16_le}

abbrev pub pt_record : Pt → List ℕ
pt_record p = i16_le p.x ++ i16_le p.y ++ i16_le p.z

abbrev pub point_record : Point → List ℕ
point_record p = pt_record (at p)

abbrev pub origin : Point
origin = record {
  x = pos 0;
  y = pos 0;
  z = pos 0;
  x_in = (record { le = tt }, record { le = tt });
  y_in = (record { le = tt }, record { le = tt });
  z_in = (record { le = tt }, record { le = tt });
}
