-- Reading and writing a scene file undo each other. Assumes nothing.
use Rattle.std.specs.Prelude.{◌≡◌, ℕ, ◌<◌, ◌≤◌, true, List, map, length, slice_index}
use Rattle.records.specs.Format.{Format, format}
use Rattle.records.specs.declared.record.Record.{Ghosts}
use Rattle.roundtrip.specs.Bytes.{file_bytes}
use Rattle.scene.specs.Lists.{all_named}
use Rattle.scene.specs.Used.{all_used}
use Rattle.scenefile.specs.Checks.{Refused}
use Rattle.scenefile.specs.Load.{SceneOf}
use Rattle.scenefile.specs.declared.counts.Rooms.{Rooms}
use Rattle.space.specs.declared.refusal.Refusal.{Refusal}
use Rattle.tree.specs.Order.{in_order}
use Rattle.tree.specs.Rows.{node_symbol}
use Rattle.tree.specs.declared.node.Node.{Node}

-- tables that a file can hold: within their limits, with nodes that are a tree in post-order and name
-- every solid
pub record Storable {S J : Type 0} (solids : List S) (joints : List J) (nodes : List Node) : Type 0 where
  pub some_solids : 1 ≤ length solids
  pub few_solids : length solids ≤ 512
  pub few_joints : length joints ≤ 511
  pub some_nodes : 1 ≤ length nodes
  pub few_nodes : length nodes ≤ 1023
  pub all_in : all_named (length solids) (length joints) (map node_symbol nodes) ≡ true
  pub ordered : in_order (map node_symbol nodes) ≡ true
  pub used : all_used (length solids) (map node_symbol nodes) ≡ true

-- tables with room for this many rows; a list has one entry a node
pub record RoomFor (solids joints nodes : ℕ) (rooms : Rooms) : Type 0 where
  pub solids_room : solids ≤ rooms.solids
  pub joints_room : joints ≤ rooms.joints
  pub nodes_room : nodes ≤ rooms.nodes
  pub list_room : nodes ≤ rooms.list

module _ {S J : Type 0} where
  -- the bytes are a file of this scene, which is not refused and is no other scene's
  pub record ReadsBack (f : Format S J) (bytes : List ℕ) (rooms : Rooms) (solids : List S) (joints : List J) (nodes : List Node) : Type 0 where
    pub scene : SceneOf f bytes rooms solids joints nodes
    pub accepted : (e : Refusal) → Refused f bytes rooms e → ⊥
    pub no_other :
        (others : List S) (other_joints : List J) (other_nodes : List Node)
        → SceneOf f bytes rooms others other_joints other_nodes
        → (others ≡ solids) × (other_joints ≡ joints) × (other_nodes ≡ nodes)

-- both theorems are of any number that a make may have
module _ {S J : Type 0} (solid_kind : Ghosts S) (joint_kind : Ghosts J) where
  -- an accepted file, read and written again, has its old bytes
  abbrev pub ReadThenWritten : Type 0
  ReadThenWritten =
      (make : ℕ) (bytes : List ℕ) (rooms : Rooms) (solids : List S) (joints : List J) (nodes : List Node)
      → ((i : ℕ) → slice_index bytes i < 256)
      → SceneOf (format make solid_kind joint_kind) bytes rooms solids joints nodes
      → file_bytes (format make solid_kind joint_kind) solids joints nodes ≡ bytes

  -- a scene that a file can hold, written and read again, is the same scene
  abbrev pub WrittenThenRead : Type 0
  WrittenThenRead =
      (make : ℕ) (rooms : Rooms) (solids : List S) (joints : List J) (nodes : List Node)
      → Storable solids joints nodes
      → RoomFor (length solids) (length joints) (length nodes) rooms
      → ReadsBack (format make solid_kind joint_kind) (file_bytes (format make solid_kind joint_kind) solids joints nodes) rooms solids joints nodes
