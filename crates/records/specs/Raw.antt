-- The record of a catalogue solid by its fields, 20 bytes. Assumes nothing.
use Rattle.std.specs.Prelude.{ℕ, List, ◌++◌}
use Rattle.records.specs.LittleEndian.{u16_le, i16_le, i32_le}
use Rattle.records.specs.declared.raw.RawSolid.{RawSolid}

abbrev pub raw_record : RawSolid → List ℕ
raw_record s =
    u16_le s.kind ++ u16_le s.r ++ i16_le s.x ++ i16_le s.y ++ i16_le s.z ++ u16_le s.h0 ++ u16_le s.h1 ++ u16_le s.h2 ++ i32_le s.d
