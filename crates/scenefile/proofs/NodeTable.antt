-- What is read of a file's node table. Assumes nothing.
use Rattle.std.proofs.Common.{◌≡◌, ℕ, ◌*◌, ◌<◌, ◌≤◌, List, map, length, take, ap, ◌∙◌, subst, length-take-le}
use Rattle.records.specs.Node.{node_record}
use Rattle.scenefile.specs.Checks.{NoNode, NodesCheck}
use Rattle.scenefile.specs.Counted.{Counted}
use Rattle.scenefile.specs.Header.{nodes_start}
use Rattle.scenefile.specs.Rows.{part, row, rows, First}
use Rattle.scenefile.specs.declared.counts.Counts.{Counts}
use Rattle.space.specs.declared.refusal.Refusal.{Refusal}
use Rattle.space.specs.declared.refusal.Refusal.TheVariants as refusal
use Rattle.tree.specs.declared.node.Node.{Node}
use Rattle.scenefile.proofs.Chains.{nodes_refused, nodes_pass}
use Rattle.scenefile.proofs.Walks.{none_of, first_of, rows_of}

-- `front` is the part of a table that the nodes were read into
module _ (size : ℕ) (bytes : List ℕ) (counts : Counts) (counted : Counted bytes counts) (table : List ℕ) (is : table ≡ part (nodes_start size bytes) (4 * counts.nodes) bytes) (own : List Node) (room : counts.nodes ≤ length own) where
  front : length (take counts.nodes own) ≡ counts.nodes
  front = length-take-le counts.nodes own room

  pub read_refused : (i : ℕ) → First (λ k. NoNode counts.solids counts.joints (row table 0 4 k)) (length (take counts.nodes own)) i → NodesCheck size bytes (refusal.Node i)
  read_refused i first =
      nodes_refused size bytes counts counted i
      (first_of (NoNode counts.solids counts.joints) bytes table (nodes_start size bytes) 4 counts.nodes is i (subst (λ n. First (λ k. NoNode counts.solids counts.joints (row table 0 4 k)) n i) front first))

  pub read_pass : ((k : ℕ) → k < length (take counts.nodes own) → NoNode counts.solids counts.joints (row table 0 4 k) → ⊥) → (e : Refusal) → NodesCheck size bytes e → ⊥
  read_pass good =
      nodes_pass size bytes counts counted
      (none_of (NoNode counts.solids counts.joints) bytes table (nodes_start size bytes) 4 counts.nodes is (subst (λ n. (k : ℕ) → k < n → NoNode counts.solids counts.joints (row table 0 4 k) → ⊥) front good))

  pub read_rows : (nodes : List Node) → map node_record nodes ≡ rows table 0 4 (length (take counts.nodes own)) → map node_record nodes ≡ rows bytes (nodes_start size bytes) 4 counts.nodes
  read_rows nodes are = are ∙ ap (rows table 0 4) front ∙ rows_of bytes table (nodes_start size bytes) 4 counts.nodes is
