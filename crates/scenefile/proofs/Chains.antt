-- One check after another. Assumes nothing.
use Rattle.std.proofs.Common.{◌≡◌, ℕ, ◌<◌, true, false, not, List, [], ◌∷◌, map, is_some, Some, None, Option, sym, refl, ap, ◌∙◌, subst, ap₂, inl, inr, arith}
use Rattle.records.specs.Apart.{node_apart}
use Rattle.records.specs.Format.{Format}
use Rattle.records.specs.Node.{node_record}
use Rattle.scene.specs.Lists.{all_named}
use Rattle.scene.specs.Used.{names, all_used}
use Rattle.scenefile.specs.Checks.{◌▸◌, NoNode, SolidsCheck, JointsCheck, NodesCheck, OrderCheck, UnusedCheck, node_rows, RowsFine, TreeFine}
use Rattle.scenefile.specs.Counted.{Counted}
use Rattle.scenefile.specs.Header.{header_fault, count, solids_start, joints_start, nodes_start}
use Rattle.scenefile.specs.Rows.{row, rows, First, Nobodys}
use Rattle.scenefile.specs.declared.counts.Counts.{Counts}
use Rattle.scenefile.specs.declared.counts.Rooms.{Rooms}
use Rattle.space.specs.declared.refusal.Refusal.{Refusal}
use Rattle.space.specs.declared.refusal.Refusal.TheVariants as refusal
use Rattle.space.specs.declared.refusal.Table.TheVariants.{Solids, Joints, Nodes}
use Rattle.tree.specs.Order.{order_fault, in_order}
use Rattle.tree.specs.Rows.{node_symbol}
use Rattle.tree.specs.declared.node.Node.{Node}

-- ---- tables with the same records are the same tables

-- two values with one record are one value
abbrev pub ToldApart : {X : Type 0} → (X → List ℕ) → Type 0
ToldApart {X = X} written = (x y : X) → written x ≡ written y → x ≡ y

pub same_tables : {X : Type 0} (written : X → List ℕ) → ToldApart written → (xs ys : List X) → map written xs ≡ map written ys → xs ≡ ys
same_tables written apart [] [] e = refl
same_tables written apart [] (y ∷ ys) e = let z : ◌≡◌ {A = ℕ} 0 1 = cc in absurd (let f : ⊥ = omega arith in f)
same_tables written apart (x ∷ xs) [] e = let z : ◌≡◌ {A = ℕ} 0 1 = cc in absurd (let f : ⊥ = omega arith in f)
same_tables written apart (x ∷ xs) (y ∷ ys) e =
    let first : written x ≡ written y = cc in
    let more : map written xs ≡ map written ys = cc in
    ap₂ ◌∷◌ (apart x y first) (same_tables written apart xs ys more)

pub same_nodes : (xs ys : List Node) → map node_record xs ≡ map node_record ys → xs ≡ ys
same_nodes = same_tables node_record node_apart

-- ---- what each check of the node table finds

some_none : {i : ℕ} {X : Type 0} → ◌≡◌ {A = Option ℕ} (Some i) None → X
some_none e = let z : ◌≡◌ {A = ℕ} 0 1 = cc in absurd (let f : ⊥ = omega arith in f)

no_fault_in_order : (l : List Node) → None ≡ order_fault 0 0 (map node_symbol l) → in_order (map node_symbol l) ≡ true
no_fault_in_order l none = ap (λ o. not (is_some o)) (sym none)

module _ (size : ℕ) (bytes : List ℕ) (counts : Counts) (counted : Counted bytes counts) where
  -- a statement over the counts that were read is one over the file's
  over : (P : ℕ → ℕ → ℕ → Type 0) → P counts.solids counts.joints counts.nodes → P (count Solids bytes) (count Joints bytes) (count Nodes bytes)
  over P h =
      subst (λ s. P s (count Joints bytes) (count Nodes bytes)) counted.solids_is
      (subst (λ j. P counts.solids j (count Nodes bytes)) counted.joints_is
      (subst (λ n. P counts.solids counts.joints n) counted.nodes_is h))

  pub nodes_refused : (i : ℕ) → First (λ k. NoNode counts.solids counts.joints (row bytes (nodes_start size bytes) 4 k)) counts.nodes i → NodesCheck size bytes (refusal.Node i)
  nodes_refused i first = (i, refl, over (λ s j n. First (λ k. NoNode s j (row bytes (nodes_start size bytes) 4 k)) n i) first)

  module _ (good : (k : ℕ) → k < counts.nodes → NoNode counts.solids counts.joints (row bytes (nodes_start size bytes) 4 k) → ⊥) where
    pub nodes_pass : (f : Refusal) → NodesCheck size bytes f → ⊥
    nodes_pass f bad = over (λ s j n. (k : ℕ) → k < n → NoNode s j (row bytes (nodes_start size bytes) 4 k) → ⊥) good bad.0 bad.2.within bad.2.here

  module _ (nodes : List Node) (are : map node_record nodes ≡ rows bytes (nodes_start size bytes) 4 counts.nodes) where
    pub rows_are : map node_record nodes ≡ node_rows size bytes
    rows_are = over (λ s j n. map node_record nodes ≡ rows bytes (nodes_start size bytes) 4 n) are

    pub order_refused : (i : ℕ) → Some i ≡ order_fault 0 0 (map node_symbol nodes) → OrderCheck size bytes (refusal.Order i)
    order_refused i fault = (nodes, rows_are, (i, refl, sym fault))

    pub order_pass : None ≡ order_fault 0 0 (map node_symbol nodes) → (f : Refusal) → OrderCheck size bytes f → ⊥
    order_pass none f bad =
        let same = same_nodes bad.0 nodes (bad.1 ∙ sym rows_are) in
        some_none (sym bad.2.2 ∙ ap (λ l. order_fault 0 0 (map node_symbol l)) same ∙ sym none)

    pub unused_refused : (i : ℕ) → i < counts.solids → names i (map node_symbol nodes) ≡ false → UnusedCheck size bytes (refusal.Unused i)
    unused_refused i below unnamed = (nodes, rows_are, (i, refl, over (λ s j n. i < s) below, unnamed))

    pub tree_fine : all_named counts.solids counts.joints (map node_symbol nodes) ≡ true → None ≡ order_fault 0 0 (map node_symbol nodes) → all_used counts.solids (map node_symbol nodes) ≡ true → TreeFine size bytes nodes
    tree_fine named ordered used = record {
      nodes_are = rows_are;
      all_in = over (λ s j n. all_named s j (map node_symbol nodes) ≡ true) named;
      ordered = no_fault_in_order nodes ordered;
      used = over (λ s j n. all_used s (map node_symbol nodes) ≡ true) used;
    }

-- ---- what each check of the rows finds

module _ {S J : Type 0} (f : Format S J) (bytes : List ℕ) (counts : Counts) (counted : Counted bytes counts) where
  pub solids_refused : (i : ℕ) → First (λ k. Nobodys f.solid (row bytes solids_start f.size k)) counts.solids i → SolidsCheck f bytes (refusal.Solid i)
  solids_refused i first = (i, refl, subst (λ n. First (λ k. Nobodys f.solid (row bytes solids_start f.size k)) n i) counted.solids_is first)

  pub joints_refused : (i : ℕ) → First (λ k. Nobodys f.joint (row bytes (joints_start f.size bytes) 4 k)) counts.joints i → JointsCheck f bytes (refusal.Joint i)
  joints_refused i first = (i, refl, subst (λ n. First (λ k. Nobodys f.joint (row bytes (joints_start f.size bytes) 4 k)) n i) counted.joints_is first)

  module _ (solids_fine : (k : ℕ) → k < counts.solids → Nobodys f.solid (row bytes solids_start f.size k) → ⊥) where
    solids_good : (k : ℕ) → k < count Solids bytes → Nobodys f.solid (row bytes solids_start f.size k) → ⊥
    solids_good = subst (λ n. (k : ℕ) → k < n → Nobodys f.solid (row bytes solids_start f.size k) → ⊥) counted.solids_is solids_fine

    pub solids_pass : (e : Refusal) → SolidsCheck f bytes e → ⊥
    solids_pass e bad = solids_good bad.0 bad.2.within bad.2.here

    pub rows_fine : ((k : ℕ) → k < counts.joints → Nobodys f.joint (row bytes (joints_start f.size bytes) 4 k) → ⊥) → RowsFine f bytes
    rows_fine joints_fine = record {
      solids_good = solids_good;
      joints_good = subst (λ n. (k : ℕ) → k < n → Nobodys f.joint (row bytes (joints_start f.size bytes) 4 k) → ⊥) counted.joints_is joints_fine;
    }

-- ---- all checks

pub header_pass : (make size : ℕ) (bytes : List ℕ) (rooms : Rooms) → header_fault make size bytes rooms ≡ None → (f : Refusal) → header_fault make size bytes rooms ≡ Some f → ⊥
header_pass make size bytes rooms none f fault = let e : ◌≡◌ {A = Option Refusal} (Some f) None = sym fault ∙ none in let z : ◌≡◌ {A = ℕ} 0 1 = cc in omega arith

-- two checks in a row, with more to come
pub then_more : (A B C : Refusal → Type 0) (e : Refusal) → (A ▸ B) e → (A ▸ B ▸ C) e
then_more A B C e (inl a) = inl a
then_more A B C e (inr b) = inr (b.0, inl b.1)

module _ {S J : Type 0} (f : Format S J) (bytes : List ℕ) (fine : RowsFine f bytes) where
  pub solids_all_pass : (e : Refusal) → SolidsCheck f bytes e → ⊥
  solids_all_pass e bad = fine.solids_good bad.0 bad.2.within bad.2.here

  pub joints_all_pass : (e : Refusal) → JointsCheck f bytes e → ⊥
  joints_all_pass e bad = fine.joints_good bad.0 bad.2.within bad.2.here
