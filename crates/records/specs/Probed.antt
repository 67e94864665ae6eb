-- The record of a probed solid, 52 bytes: count, radius and eight centres. Assumes nothing.
use Rattle.std.specs.Prelude.{ℕ, zero, suc, List, [], ◌++◌, slice_index_or}
use Rattle.space.specs.declared.point.Point.{Point}
use Rattle.solids.specs.declared.probed.Probed.{Probed}
use Rattle.records.specs.LittleEndian.{u16_le}
use Rattle.records.specs.Point.{point_record, origin}

-- n centres, from place i on; a solid has eight, so the origin never stands for a missing one
abbrev pub centres_record : ℕ → ℕ → List Point → List ℕ
centres_record i zero cs = []
centres_record i (suc n) cs = point_record (slice_index_or cs i origin) ++ centres_record (suc i) n cs

abbrev pub probed_record : Probed → List ℕ
probed_record s = u16_le s.count ++ u16_le s.radius ++ centres_record 0 8 s.centres
