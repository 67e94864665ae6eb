use Rattle.std.proofs.Common.{◌≡◌, ℕ, zero, suc, ◌<◌, ◌≤◌, true, false, map, Some, None, Option, refl, rules, tests, arith, List}
use Rattle.std.specs.Option.{MatchOption}
use Rattle.std.proofs.lemmas.Iterator.{first_from_Range}
use Rattle.std.proofs.lemmas.Bool.{and_from}
use Rattle.scene.specs.Used.{names, all_used}
use Rattle.tree.specs.Rows.{node_symbol}
use Rattle.tree.specs.Spell.{Symbol}
use Rattle.scenefile.proofs.order.find_unused.Goals as goal

each_used : (n : ℕ) (l : List Symbol) → ((k : ℕ) → k < n → names k l ≡ true) → all_used n l ≡ true
each_used zero l each = refl
each_used (suc n) l each = and_from (names n l) (all_used n l) (each n (omega arith)) (each_used n l (λ k h. each k (omega arith)))

unused_found : (n : ℕ) (l : List Symbol) (r : Option ℕ) → MatchOption r ((k : ℕ) → 0 ≤ k → k < n → names k l ≡ true) (λ i. (0 ≤ i) × (i < n) × (names i l ≡ false) × ((k : ℕ) → 0 ≤ k → k < i → names k l ≡ true)) → MatchOption r (all_used n l ≡ true) (λ s. (s < n) × (names s l ≡ false))
unused_found n l None each = each_used n l (λ k h. each k (omega arith) h)
unused_found n l (Some i) found = (found.1, found.2)

pub returns : goal.returns
returns c =
    let l = map node_symbol c.args.nodes.now in
    unused_found c.args.solids l c.find.result
    (first_from_Range _ _ _ c.find.result (λ s. names s l ≡ false) (λ s. names s l ≡ true) c.find.ensures.ran (λ x q k. search (rules, tests)) (λ x q k. search (rules, tests)))
