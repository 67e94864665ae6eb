-- What the caller's tables hold once a scene file is loaded. Assumes nothing.
use Rattle.std.specs.Prelude.{◌≡◌, ℕ, ◌<◌, false, List, map, length, take, drop, None, Ok, Err, Result}
use denote.Ref.{MutBor}
use Rattle.records.specs.Format.{Format}
use Rattle.records.specs.Node.{node_record}
use Rattle.scene.specs.Used.{names}
use Rattle.scenefile.specs.Checks.{solid_rows, joint_rows, node_rows, TreeFine, Refused}
use Rattle.scenefile.specs.Counted.{Counted, Roomy}
use Rattle.scenefile.specs.Header.{header_fault, count}
use Rattle.scenefile.specs.declared.counts.Counts.{Counts}
use Rattle.scenefile.specs.declared.counts.Rooms.{Rooms}
use Rattle.scenefile.specs.declared.tables.Tables.{Tables}
use Rattle.space.specs.declared.refusal.Refusal.{Refusal}
use Rattle.space.specs.declared.refusal.Table.TheVariants.{Solids}
use Rattle.tree.specs.Rows.{node_symbol, whole_entries}
use Rattle.tree.specs.declared.node.Entry.{Entry}
use Rattle.tree.specs.declared.node.Node.{Node}

-- the four tables that a caller lends
pub record Held (S J : Type 0) : Type 0 where
  pub solids : List S
  pub joints : List J
  pub nodes : List Node
  pub list : List Entry

abbrev pub held : {S J : Type 0} → Tables S J → Held S J
held t = record { solids = t.solids.now; joints = t.joints.now; nodes = t.nodes.now; list = t.list.now }

-- one table is lent on as it was lent, with as many rows
abbrev pub Kept : {X : Type 0} → MutBor (List X) → MutBor (List X) → Type 0
Kept was is = (is.ghost_name ≡ was.ghost_name) × (length is.now ≡ length was.now)

-- the four tables are the same four still
pub record SameTables {S J : Type 0} (was is : Tables S J) : Type 0 where
  pub solids : Kept was.solids is.solids
  pub joints : Kept was.joints is.joints
  pub nodes : Kept was.nodes is.nodes
  pub list : Kept was.list is.list

-- The header has no fault, the fronts of the tables are the rows that the file has, the nodes are a
-- tree that names every solid, the list is its whole list, and past their fronts the tables are as
-- they were.
pub record Loaded {S J : Type 0} (f : Format S J) (bytes : List ℕ) (rooms : Rooms) (was is : Held S J) (c : Counts) : Type 0 where
  pub no_fault : header_fault f.make f.size bytes rooms ≡ None
  pub counted : Counted bytes c
  pub roomy : Roomy f.size bytes rooms c
  pub solids_are : map f.solid (take c.solids is.solids) ≡ solid_rows f.size bytes
  pub joints_are : map f.joint (take c.joints is.joints) ≡ joint_rows f.size bytes
  pub nodes_are : TreeFine f.size bytes (take c.nodes is.nodes)
  pub list_is : take c.nodes is.list ≡ whole_entries (take c.nodes is.nodes)
  pub solids_rest : drop c.solids is.solids ≡ drop c.solids was.solids
  pub joints_rest : drop c.joints is.joints ≡ drop c.joints was.joints
  pub nodes_rest : drop c.nodes is.nodes ≡ drop c.nodes was.nodes
  pub list_rest : drop c.nodes is.list ≡ drop c.nodes was.list

abbrev pub rooms_of : {S J : Type 0} → Held S J → Rooms
rooms_of t = record { solids = length t.solids; joints = length t.joints; nodes = length t.nodes; list = length t.list }

-- A file is loaded, or it is refused by the first check that refuses, and the tables are as they were.
abbrev pub Outcome : {S J : Type 0} (f : Format S J) (bytes : List ℕ) (was is : Held S J) → Result Counts Refusal → Type 0
Outcome f bytes was is (Ok c) = Loaded f bytes (rooms_of was) was is c
Outcome f bytes was is (Err e) = Refused f bytes (rooms_of was) e × (is ≡ was)

-- what is certain of a solid that a file is refused for: it is one of the table, and no node names it
pub record UnusedSolid (size : ℕ) (bytes : List ℕ) (n : ℕ) : Type 0 where
  pub below : n < count Solids bytes
  pub nodes : List Node
  pub nodes_are : map node_record nodes ≡ node_rows size bytes
  pub unnamed : names n (map node_symbol nodes) ≡ false

-- the scene that a file is: the rows of its tables are the file's
pub record SceneOf {S J : Type 0} (f : Format S J) (bytes : List ℕ) (rooms : Rooms) (solids : List S) (joints : List J) (nodes : List Node) : Type 0 where
  pub no_fault : header_fault f.make f.size bytes rooms ≡ None
  pub solids_are : map f.solid solids ≡ solid_rows f.size bytes
  pub joints_are : map f.joint joints ≡ joint_rows f.size bytes
  pub nodes_are : map node_record nodes ≡ node_rows f.size bytes
