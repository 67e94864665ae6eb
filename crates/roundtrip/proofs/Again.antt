-- An accepted file, read and written again. Assumes nothing.
use Rattle.std.proofs.Common.{◌≡◌, ℕ, ◌+◌, ◌*◌, ◌<◌, List, ◌++◌, map, length, get_or, take, drop, sym, ap, ◌∙◌, subst, ap₂}
use lib.ListN.{length-map}
use Rattle.records.specs.Format.{Format, format}
use Rattle.records.specs.declared.record.Record.{Ghosts}
use Rattle.records.specs.LittleEndian.{u16_le, u32_le}
use Rattle.records.specs.Node.{node_record}
use Rattle.roundtrip.proofs.Headers.{HeaderFine, header_fine}
use Rattle.roundtrip.proofs.Numbers.{numbers_again}
use Rattle.roundtrip.proofs.Pieces.{rows_bytes, four_parts}
use Rattle.roundtrip.specs.Bytes.{concat, header_bytes, file_bytes}
use Rattle.roundtrip.specs.RoundTrip.{RoomFor, ReadThenWritten}
use Rattle.scenefile.specs.Header.{count, joints_start, nodes_start}
use Rattle.scenefile.specs.Load.{SceneOf}
use Rattle.scenefile.specs.Rows.{row, rows}
use Rattle.scenefile.specs.declared.counts.Rooms.{Rooms}
use Rattle.space.specs.declared.refusal.Table.TheVariants.{Solids, Joints, Nodes}
use Rattle.std.proofs.lemmas.List.FromFn.{length-map-range_with_len}
use Rattle.tree.specs.declared.node.Node.{Node}

-- a table whose records are the rows of a file
module _ {X : Type 0} (written : X → List ℕ) (xs : List X) (bytes : List ℕ) (start size n : ℕ) (are : map written xs ≡ rows bytes start size n) where
  many : length xs ≡ n
  many = sym (length-map xs written) ∙ ap length are ∙ length-map-range_with_len (row bytes start size) 0 n

  part : concat (map written xs) ≡ take (size * n) (drop start bytes)
  part = ap concat are ∙ rows_bytes bytes start size n

module _ {S J : Type 0} (f : Format S J) (bytes : List ℕ) (rooms : Rooms) (solids : List S) (joints : List J) (nodes : List Node) (small : (i : ℕ) → get_or bytes i 0 < 256) (scene : SceneOf f bytes rooms solids joints nodes) where
  fine : HeaderFine f.make f.size bytes rooms
  fine = header_fine f.make f.size bytes rooms scene.no_fault

  solids_many : length solids ≡ count Solids bytes
  solids_many = many f.solid solids bytes 20 f.size (count Solids bytes) scene.solids_are

  joints_many : length joints ≡ count Joints bytes
  joints_many = many f.joint joints bytes (joints_start f.size bytes) 4 (count Joints bytes) scene.joints_are

  nodes_many : length nodes ≡ count Nodes bytes
  nodes_many = many node_record nodes bytes (nodes_start f.size bytes) 4 (count Nodes bytes) scene.nodes_are

  room : RoomFor (length solids) (length joints) (length nodes) rooms
  room =
      subst (λ s. RoomFor s (length joints) (length nodes) rooms) (sym solids_many)
      (subst (λ j. RoomFor (count Solids bytes) j (length nodes) rooms) (sym joints_many)
      (subst (λ n. RoomFor (count Solids bytes) (count Joints bytes) n rooms) (sym nodes_many) fine.room))

  header_again : header_bytes f.make f.size (length solids) (length joints) (length nodes) ≡ take 20 bytes
  header_again =
      let make_is = sym fine.make_is in
      let solids_at = sym fine.solids_at in
      let joints_at = ap (λ s. 20 + f.size * s) solids_many ∙ sym fine.joints_at in
      let nodes_at = ap₂ (λ s j. 20 + f.size * s + 4 * j) solids_many joints_many ∙ sym fine.nodes_at in
      (λ i. u16_le (make_is i) ++ u16_le (solids_many i) ++ u16_le (joints_many i) ++ u16_le (nodes_many i) ++ u32_le (solids_at i) ++ u32_le (joints_at i) ++ u32_le (nodes_at i))
      ∙ numbers_again bytes fine.long small

  pub all_again : file_bytes f solids joints nodes ≡ bytes
  all_again =
      let solids_part = part f.solid solids bytes 20 f.size (count Solids bytes) scene.solids_are in
      let joints_part = part f.joint joints bytes (joints_start f.size bytes) 4 (count Joints bytes) scene.joints_are in
      let nodes_part = part node_record nodes bytes (nodes_start f.size bytes) 4 (count Nodes bytes) scene.nodes_are in
      (λ i. header_again i ++ (solids_part i ++ (joints_part i ++ nodes_part i)))
      ∙ four_parts bytes 20 (f.size * count Solids bytes) (4 * count Joints bytes) (4 * count Nodes bytes) fine.ends

pub read_then_written : {S J : Type 0} (solid_kind : Ghosts S) (joint_kind : Ghosts J) → ReadThenWritten solid_kind joint_kind
read_then_written solid_kind joint_kind make = all_again (format make solid_kind joint_kind)

pub read_has_room : {S J : Type 0} (f : Format S J) (bytes : List ℕ) (rooms : Rooms) (solids : List S) (joints : List J) (nodes : List Node) → ((i : ℕ) → get_or bytes i 0 < 256) → SceneOf f bytes rooms solids joints nodes → RoomFor (length solids) (length joints) (length nodes) rooms
read_has_room = room
