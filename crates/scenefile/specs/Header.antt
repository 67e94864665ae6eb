-- The header of a scene file, 20 bytes, and all that can be wrong with it. Assumes nothing.
use Rattle.std.specs.Prelude.{ℕ, ◌+◌, ◌*◌, Bool, cond, not, ◌&&◌, List, [], ◌∷◌, ◌++◌, length, Some, None, Option, ◌==◌, nat_le, nat_lt, slice_index}
use Rattle.scenefile.specs.declared.counts.Rooms.{Rooms}
use Rattle.space.specs.declared.refusal.Refusal.{Refusal}
use Rattle.space.specs.declared.refusal.Refusal.TheVariants.{Short, Make, Count, Offset, Length, Room}
use Rattle.space.specs.declared.refusal.Table.{Table}
use Rattle.space.specs.declared.refusal.Table.TheVariants.{Solids, Joints, Nodes, List as Entries}

-- numbers of a file, the low byte first
abbrev pub u16_at : ℕ → List ℕ → ℕ
u16_at i bytes = slice_index bytes i + slice_index bytes (i + 1) * 256

abbrev pub u32_at : ℕ → List ℕ → ℕ
u32_at i bytes = slice_index bytes i + slice_index bytes (i + 1) * 256 + slice_index bytes (i + 2) * 65536 + slice_index bytes (i + 3) * 16777216

-- the make, the counts of the tables and their offsets, in this order; a list has one entry a node
abbrev pub make_of : List ℕ → ℕ
make_of = u16_at 0

abbrev pub count : Table → List ℕ → ℕ
count Solids = u16_at 2
count Joints = u16_at 4
count Nodes = u16_at 6
count Entries = u16_at 6

abbrev pub solids_offset : List ℕ → ℕ
solids_offset = u32_at 8

abbrev pub joints_offset : List ℕ → ℕ
joints_offset = u32_at 12

abbrev pub nodes_offset : List ℕ → ℕ
nodes_offset = u32_at 16

-- where each table has to begin, and the file to end, for a solid record of `size` bytes: the tables
-- follow the header in their order without gaps, and nothing follows them
abbrev pub solids_start : ℕ
solids_start = 20

abbrev pub joints_start : ℕ → List ℕ → ℕ
joints_start size bytes = solids_start + size * count Solids bytes

abbrev pub nodes_start : ℕ → List ℕ → ℕ
nodes_start size bytes = joints_start size bytes + 4 * count Joints bytes

abbrev pub file_end : ℕ → List ℕ → ℕ
file_end size bytes = nodes_start size bytes + 4 * count Nodes bytes

abbrev pub from_to : ℕ → ℕ → ℕ → Bool
from_to low high n = nat_le low n && nat_le n high

-- each fault of the header with its refusal, in the order in which they are looked for
abbrev pub count_faults : ℕ → List ℕ → List (Bool × Refusal)
count_faults make bytes =
    (nat_lt (length bytes) 20, Short)
    ∷ (not (make_of bytes == make), Make)
    ∷ (not (from_to 1 512 (count Solids bytes)), Count Solids)
    ∷ (not (from_to 0 511 (count Joints bytes)), Count Joints)
    ∷ (not (from_to 1 1023 (count Nodes bytes)), Count Nodes)
    ∷ []

abbrev pub layout_faults : ℕ → List ℕ → List (Bool × Refusal)
layout_faults size bytes =
    (not (solids_offset bytes == solids_start), Offset Solids)
    ∷ (not (joints_offset bytes == joints_start size bytes), Offset Joints)
    ∷ (not (nodes_offset bytes == nodes_start size bytes), Offset Nodes)
    ∷ (not (length bytes == file_end size bytes), Length)
    ∷ []

abbrev pub room_faults : List ℕ → Rooms → List (Bool × Refusal)
room_faults bytes rooms =
    (nat_lt rooms.solids (count Solids bytes), Room Solids)
    ∷ (nat_lt rooms.joints (count Joints bytes), Room Joints)
    ∷ (nat_lt rooms.nodes (count Nodes bytes), Room Nodes)
    ∷ (nat_lt rooms.list (count Entries bytes), Room Entries)
    ∷ []

abbrev pub first_fault : List (Bool × Refusal) → Option Refusal
first_fault [] = None
first_fault (x ∷ rest) = cond x.0 (Some x.1) (first_fault rest)

abbrev pub header_fault : ℕ → ℕ → List ℕ → Rooms → Option Refusal
header_fault make size bytes rooms = first_fault (count_faults make bytes ++ (layout_faults size bytes ++ room_faults bytes rooms))
