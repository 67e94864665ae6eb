-- A scene whose nodes are a tree is not refused. Assumes nothing.
use Rattle.std.proofs.Common.{◌≡◌, ℕ, zero, suc, ◌<◌, ◌≤◌, true, not, ◌⊎◌, List, [], ◌∷◌, map, length, get_or, is_some, Some, sym, ap, ◌∙◌, subst, inl, inr, arith}
use lib.ListN.{length-map}
use Rattle.records.specs.Format.{Format}
use Rattle.records.specs.Node.{node_record}
use Rattle.scene.specs.Lists.{named, all_named}
use Rattle.scene.specs.Used.{names, all_used}
use Rattle.scenefile.proofs.Chains.{same_nodes, header_pass}
use Rattle.scenefile.specs.Checks.{Refused, TreeFine, NodesCheck, OrderCheck, UnusedCheck}
use Rattle.scenefile.specs.Header.{count, joints_start, nodes_start}
use Rattle.scenefile.specs.Load.{SceneOf}
use Rattle.scenefile.specs.Rows.{row}
use Rattle.scenefile.specs.declared.counts.Rooms.{Rooms}
use Rattle.space.specs.declared.refusal.Refusal.{Refusal}
use Rattle.space.specs.declared.refusal.Table.TheVariants.{Solids, Joints, Nodes}
use Rattle.std.proofs.lemmas.List.FromFn.{length-map-range_with_len, get_or-map-range_with_len}
use Rattle.std.proofs.ByRecursion.{All-get_or}
use Rattle.std.proofs.lemmas.List.{get_or-map}
use Rattle.std.proofs.lemmas.Bool.{and_parts, both_ways, cases_lt}
use Rattle.std.specs.List.{range_with_len, AllByRecursion}
use Rattle.tree.specs.Order.{order_fault, in_order}
use Rattle.tree.specs.Rows.{node_symbol}
use Rattle.tree.specs.Spell.{Symbol}
use Rattle.tree.specs.declared.node.Node.{Node}

-- of a table whose records are n rows, row k is the record of a value of which P holds
owner : {X : Type 0} (written : X → List ℕ) (P : X → Type 0) (xs : List X) (rows : ℕ → List ℕ) (n k : ℕ) → map written xs ≡ map rows (range_with_len 0 n) → AllByRecursion P xs → k < n → (x : X) × (written x ≡ rows k) × P x
owner written P [] rows n k are all below = absurd (let f : ⊥ = omega (arith, ap length are ∙ length-map-range_with_len rows 0 n) in f)
owner written P (y ∷ ys) rows n k are all below =
    let xs = y ∷ ys in
    let many : length xs ≡ n = sym (length-map xs written) ∙ ap length are ∙ length-map-range_with_len rows 0 n in
    let inside : k < length xs = omega arith in
    (get_or xs k y, sym (get_or-map written xs k y [] inside) ∙ ap (λ l. get_or l k []) are ∙ get_or-map-range_with_len rows 0 n k k [] below (omega arith), All-get_or P xs k y inside all)

any : {X : Type 0} (xs : List X) → AllByRecursion (λ x. Unit {0}) xs
any [] = tt
any (x ∷ xs) = (tt, any xs)

each_named : (solids joints : ℕ) (nodes : List Node) → all_named solids joints (map node_symbol nodes) ≡ true → AllByRecursion (λ x. named solids joints (node_symbol x) ≡ true) nodes
each_named solids joints [] all = tt
each_named solids joints (x ∷ xs) all =
    let both = and_parts (named solids joints (node_symbol x)) (all_named solids joints (map node_symbol xs)) all in
    (both.0, each_named solids joints xs both.1)

each_used : (solids n : ℕ) (l : List Symbol) → all_used solids l ≡ true → n < solids → names n l ≡ true
each_used zero n l all below = absurd (let f : ⊥ = omega arith in f)
each_used (suc s) n l all below = go (and_parts (names s l) (all_used s l) all) (each_used s n l) (cases_lt n s)
  where
    go : (names s l ≡ true) × (all_used s l ≡ true) → (all_used s l ≡ true → n < s → names n l ≡ true) → (n < s) ⊎ (s ≤ n) → names n l ≡ true
    go both earlier (inl less) = earlier both.1 less
    go both earlier (inr more) = let same : s ≡ n = omega arith in subst (λ k. names k l ≡ true) same both.0

module _ {S J : Type 0} (f : Format S J) (bytes : List ℕ) (rooms : Rooms) (solids : List S) (joints : List J) (nodes : List Node) (scene : SceneOf f bytes rooms solids joints nodes) (fine : TreeFine f.size bytes nodes) where
  nodes_pass : (e : Refusal) → NodesCheck f.size bytes e → ⊥
  nodes_pass e bad =
      let its = owner node_record (λ x. named (count Solids bytes) (count Joints bytes) (node_symbol x) ≡ true) nodes (row bytes (nodes_start f.size bytes) 4) (count Nodes bytes) bad.0 fine.nodes_are (each_named (count Solids bytes) (count Joints bytes) nodes fine.all_in) bad.2.within in
      bad.2.here its.0 its.1 its.2

  order_pass : (e : Refusal) → OrderCheck f.size bytes e → ⊥
  order_pass e bad =
      let same = same_nodes bad.0 nodes (bad.1 ∙ sym fine.nodes_are) in
      let fault : order_fault 0 0 (map node_symbol nodes) ≡ Some bad.2.0 = sym (ap (λ l. order_fault 0 0 (map node_symbol l)) same) ∙ bad.2.2 in
      both_ways (in_order (map node_symbol nodes)) (ap (λ o. not (is_some o)) fault) fine.ordered

  unused_pass : (e : Refusal) → UnusedCheck f.size bytes e → ⊥
  unused_pass e bad =
      let same = same_nodes bad.0 nodes (bad.1 ∙ sym fine.nodes_are) in
      let n = bad.2.0 in
      both_ways (names n (map node_symbol nodes)) (sym (ap (λ l. names n (map node_symbol l)) same) ∙ bad.2.3) (each_used (count Solids bytes) n (map node_symbol nodes) fine.used bad.2.2)

  pub not_refused : (e : Refusal) → Refused f bytes rooms e → ⊥
  not_refused e (inl bad) = header_pass f.make f.size bytes rooms scene.no_fault e bad
  not_refused e (inr (_, inl bad)) =
      let its = owner f.solid (λ x. Unit {0}) solids (row bytes 20 f.size) (count Solids bytes) bad.0 scene.solids_are (any solids) bad.2.within in
      bad.2.here its.0 its.1
  not_refused e (inr (_, inr (_, inl bad))) =
      let its = owner f.joint (λ x. Unit {0}) joints (row bytes (joints_start f.size bytes) 4) (count Joints bytes) bad.0 scene.joints_are (any joints) bad.2.within in
      bad.2.here its.0 its.1
  not_refused e (inr (_, inr (_, inr (_, inl bad)))) = nodes_pass e bad
  not_refused e (inr (_, inr (_, inr (_, inr (_, inl bad))))) = order_pass e bad
  not_refused e (inr (_, inr (_, inr (_, inr (_, inr (_, bad)))))) = unused_pass e bad
