-- How a scene file is refused, and what it holds where it is not. Assumes nothing.
use Rattle.std.specs.Prelude.{◌≡◌, ℕ, ◌<◌, true, false, ◌⊎◌, List, map, Some, None, ◌≢◌}
use Rattle.records.specs.Format.{Format}
use Rattle.records.specs.Node.{node_record}
use Rattle.scene.specs.Lists.{named, all_named}
use Rattle.scene.specs.Used.{names, all_used}
use Rattle.scenefile.specs.Counted.{Counted, Roomy}
use Rattle.scenefile.specs.Header.{header_fault, count, solids_start, joints_start, nodes_start}
use Rattle.scenefile.specs.Rows.{row, rows, First, Nobodys}
use Rattle.scenefile.specs.declared.counts.Counts.{Counts}
use Rattle.scenefile.specs.declared.counts.Rooms.{Rooms}
use Rattle.space.specs.declared.refusal.Refusal.{Refusal}
use Rattle.space.specs.declared.refusal.Refusal.TheVariants as refusal
use Rattle.space.specs.declared.refusal.Table.TheVariants.{Solids, Joints, Nodes}
use Rattle.tree.specs.Order.{order_fault, in_order}
use Rattle.tree.specs.Rows.{node_symbol}
use Rattle.tree.specs.declared.node.Node.{Node}

-- no node that names a solid or a joint of the tables is written so
abbrev pub NoNode : ℕ → ℕ → List ℕ → Type 0
NoNode solids joints bytes = (x : Node) → node_record x ≡ bytes → named solids joints (node_symbol x) ≢ true

-- A check: which refusals it gives. Of two checks in a row the second counts only where the first
-- gives none.
infixr 20 ◌▸◌
abbrev pub ◌▸◌ : (Refusal → Type 0) → (Refusal → Type 0) → Refusal → Type 0
◌▸◌ check next e = check e ⊎ (((f : Refusal) → check f → ⊥) × next e)

-- the records of a file's tables, for solid records of `size` bytes
abbrev pub solid_rows : ℕ → List ℕ → List (List ℕ)
solid_rows size bytes = rows bytes solids_start size (count Solids bytes)

abbrev pub joint_rows : ℕ → List ℕ → List (List ℕ)
joint_rows size bytes = rows bytes (joints_start size bytes) 4 (count Joints bytes)

abbrev pub node_rows : ℕ → List ℕ → List (List ℕ)
node_rows size bytes = rows bytes (nodes_start size bytes) 4 (count Nodes bytes)

module _ {S J : Type 0} (f : Format S J) (bytes : List ℕ) where
  -- the first record of a table that nobody has
  abbrev pub SolidsCheck : Refusal → Type 0
  SolidsCheck e = (n : ℕ) × (e ≡ refusal.Solid n) × First (λ i. Nobodys f.solid (row bytes solids_start f.size i)) (count Solids bytes) n

  abbrev pub JointsCheck : Refusal → Type 0
  JointsCheck e = (n : ℕ) × (e ≡ refusal.Joint n) × First (λ i. Nobodys f.joint (row bytes (joints_start f.size bytes) 4 i)) (count Joints bytes) n

  -- every solid record and every joint record is somebody's
  pub record RowsFine : Type 0 where
    pub solids_good : (k : ℕ) → k < count Solids bytes → Nobodys f.solid (row bytes solids_start f.size k) → ⊥
    pub joints_good : (k : ℕ) → k < count Joints bytes → Nobodys f.joint (row bytes (joints_start f.size bytes) 4 k) → ⊥

module _ (size : ℕ) (bytes : List ℕ) where
  abbrev pub NodesCheck : Refusal → Type 0
  NodesCheck e = (n : ℕ) × (e ≡ refusal.Node n) × First (λ i. NoNode (count Solids bytes) (count Joints bytes) (row bytes (nodes_start size bytes) 4 i)) (count Nodes bytes) n

  -- the fault in the order of the file's nodes
  abbrev pub OrderCheck : Refusal → Type 0
  OrderCheck e = (nodes : List Node) × (map node_record nodes ≡ node_rows size bytes) × ((n : ℕ) × (e ≡ refusal.Order n) × (order_fault 0 0 (map node_symbol nodes) ≡ Some n))

  -- any solid that no node names
  abbrev pub UnusedCheck : Refusal → Type 0
  UnusedCheck e = (nodes : List Node) × (map node_record nodes ≡ node_rows size bytes) × ((n : ℕ) × (e ≡ refusal.Unused n) × (n < count Solids bytes) × (names n (map node_symbol nodes) ≡ false))

  -- the file's nodes are these, and they are a tree in post-order that names every solid
  pub record TreeFine (nodes : List Node) : Type 0 where
    pub nodes_are : map node_record nodes ≡ node_rows size bytes
    pub all_in : all_named (count Solids bytes) (count Joints bytes) (map node_symbol nodes) ≡ true
    pub ordered : in_order (map node_symbol nodes) ≡ true
    pub used : all_used (count Solids bytes) (map node_symbol nodes) ≡ true

module _ {S J : Type 0} (f : Format S J) (bytes : List ℕ) (rooms : Rooms) where
  abbrev pub HeaderCheck : Refusal → Type 0
  HeaderCheck e = header_fault f.make f.size bytes rooms ≡ Some e

  -- the checks run in rising number, and the first that refuses counts
  abbrev pub Refused : Refusal → Type 0
  Refused =
      HeaderCheck
      ▸ SolidsCheck f bytes
      ▸ JointsCheck f bytes
      ▸ NodesCheck f.size bytes
      ▸ OrderCheck f.size bytes
      ▸ UnusedCheck f.size bytes

  -- no check refuses, and these are the counts and the nodes
  pub record Checked (c : Counts) (nodes : List Node) : Type 0 where
    pub no_fault : header_fault f.make f.size bytes rooms ≡ None
    pub counted : Counted bytes c
    pub roomy : Roomy f.size bytes rooms c
    pub rows_fine : RowsFine f bytes
    pub tree_fine : TreeFine f.size bytes nodes
