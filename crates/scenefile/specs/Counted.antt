-- What a header without a fault comes to. Assumes nothing.
use Rattle.std.specs.Prelude.{◌≡◌, ℕ, ◌≤◌, List, length}
use Rattle.scenefile.specs.Header.{count, file_end}
use Rattle.scenefile.specs.declared.counts.Counts.{Counts}
use Rattle.scenefile.specs.declared.counts.Rooms.{Rooms}
use Rattle.space.specs.declared.refusal.Table.TheVariants.{Solids, Joints, Nodes}

-- the counts are within their limits
pub record Counted (bytes : List ℕ) (c : Counts) : Type 0 where
  pub long : 20 ≤ length bytes
  pub solids_is : c.solids ≡ count Solids bytes
  pub joints_is : c.joints ≡ count Joints bytes
  pub nodes_is : c.nodes ≡ count Nodes bytes
  pub some_solids : 1 ≤ c.solids
  pub few_solids : c.solids ≤ 512
  pub few_joints : c.joints ≤ 511
  pub some_nodes : 1 ≤ c.nodes
  pub few_nodes : c.nodes ≤ 1023

-- the file is as long as its tables, and the caller's tables have room
pub record Roomy (size : ℕ) (bytes : List ℕ) (rooms : Rooms) (c : Counts) : Type 0 where
  pub ends : length bytes ≡ file_end size bytes
  pub solids_room : c.solids ≤ rooms.solids
  pub joints_room : c.joints ≤ rooms.joints
  pub nodes_room : c.nodes ≤ rooms.nodes
  pub list_room : c.nodes ≤ rooms.list
