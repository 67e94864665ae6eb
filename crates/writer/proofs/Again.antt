-- A checked scene can be stored. Assumes nothing.
use Rattle.std.proofs.Common.{◌≡◌, ℕ, ◌≤◌, true, ltb, List, [], ◌∷◌, map, length, None, arith}
use Rattle.roundtrip.specs.RoundTrip.{Storable}
use Rattle.scene.proofs.Wholes.{from_in_order}
use Rattle.scene.specs.Lists.{all_named}
use Rattle.scene.specs.Used.{all_used}
use Rattle.std.proofs.lemmas.List.{length-map}
use Rattle.std.proofs.lemmas.Bool.{and_parts, ltb-true}
use Rattle.tree.proofs.Orders.{at_operator}
use Rattle.tree.specs.Order.{order_fault, in_order}
use Rattle.tree.specs.Rows.{node_symbol}
use Rattle.tree.specs.Spell.{Symbol, solid, operator}
use Rattle.tree.specs.declared.node.Node.{Node}

-- a list in order is not empty
some_symbols : (l : List Symbol) → order_fault 0 0 l ≡ None → 1 ≤ length l
unfolding order_fault
some_symbols [] e = let z : ◌≡◌ {A = ℕ} 0 1 = cc in absurd (let f : ⊥ = omega arith in f)
some_symbols (x ∷ rest) e = omega arith

-- it begins with a solid, so there is one
some_solids : (solids joints : ℕ) (l : List Symbol) → order_fault 0 0 l ≡ None → all_named solids joints l ≡ true → 1 ≤ solids
some_solids solids joints [] e all = let h = some_symbols [] e in absurd (let f : ⊥ = omega arith in f)
some_solids solids joints (solid turned n ∷ rest) e all =
    let here = ltb-true n solids (and_parts (ltb n solids) (all_named solids joints rest) all).0 in
    omega arith
some_solids solids joints (operator op turned n ∷ rest) e all =
    let both = (at_operator 0 0 op turned n rest e).0 in
    absurd (let f : ⊥ = omega arith in f)

pub storable : {S J : Type 0} (solids : List S) (joints : List J) (nodes : List Node) → length solids ≤ 512 → length joints ≤ 511 → length nodes ≤ 1023 → all_named (length solids) (length joints) (map node_symbol nodes) ≡ true → in_order (map node_symbol nodes) ≡ true → all_used (length solids) (map node_symbol nodes) ≡ true → Storable solids joints nodes
storable solids joints nodes few_solids few_joints few_nodes all ordered used =
    let l = map node_symbol nodes in
    let fine = from_in_order l ordered in
    let some = some_symbols l fine in
    record {
      some_solids = some_solids (length solids) (length joints) l fine all;
      few_solids = few_solids;
      few_joints = few_joints;
      some_nodes = omega (arith, length-map nodes node_symbol);
      few_nodes = few_nodes;
      all_in = all;
      ordered = ordered;
      used = used;
    }
