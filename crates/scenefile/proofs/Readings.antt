-- What reading a record tells. Assumes nothing.
use Rattle.std.proofs.Common.{◌≡◌, ℕ, zero, suc, ◌+◌, ◌<◌, true, List, [], ◌∷◌, ◌++◌, map, length, take, drop, set, sym, refl, ap, ◌∙◌, arith}
use Rattle.std.proofs.lemmas.List.FromFn.{map-range_with_len_more}
use Rattle.std.proofs.lemmas.List.{take_more_set, map-append}
use Rattle.std.proofs.lemmas.Bool.{and_parts, and_from}
use Rattle.scene.specs.Lists.{named, all_named}
use Rattle.scenefile.specs.Rows.{row, rows}
use Rattle.tree.specs.Rows.{node_symbol}
use Rattle.tree.specs.Spell.{Symbol}
use Rattle.tree.specs.declared.node.Node.{Node}

-- a write below n leaves what lies from n on
pub drop_set : {X : Type 0} (xs : List X) (i n : ℕ) (x : X) → i < n → drop n (set xs i x) ≡ drop n xs
drop_set [] i n x h = refl
drop_set (y ∷ ys) i zero x h = let f : ⊥ = omega arith in absurd f
drop_set (y ∷ ys) zero (suc n) x h = refl
drop_set (y ∷ ys) (suc i) (suc n) x h = drop_set ys i n x (omega arith)

-- one record more in the front of a table
pub rows_more : {X : Type 0} (written : X → List ℕ) (table : List X) (bytes : List ℕ) (start size i : ℕ) (x : X) → i < length table → written x ≡ row bytes start size i → map written (take i table) ≡ rows bytes start size i → map written (take (i + 1) (set table i x)) ≡ rows bytes start size (i + 1)
rows_more written table bytes start size i x within is so_far =
    ap (map written) (take_more_set table i x within)
    ∙ map-append written (take i table) (x ∷ [])
    ∙ ap (λ front. front ++ (written x ∷ [])) so_far
    ∙ ap (λ r. rows bytes start size i ++ (r ∷ [])) is
    ∙ sym (map-range_with_len_more (row bytes start size) 0 i i (omega arith))

-- one node more that names a solid or a joint of the tables
all_named_push : (solids joints : ℕ) (l : List Symbol) (s : Symbol) → all_named solids joints l ≡ true → named solids joints s ≡ true → all_named solids joints (l ++ (s ∷ [])) ≡ true
all_named_push solids joints [] s all it = rw it
all_named_push solids joints (x ∷ l) s all it =
    let parts = and_parts (named solids joints x) (all_named solids joints l) all in
    and_from (named solids joints x) (all_named solids joints (l ++ (s ∷ []))) parts.0 (all_named_push solids joints l s parts.1 it)

pub named_more : (solids joints : ℕ) (table : List Node) (i : ℕ) (x : Node) → i < length table → named solids joints (node_symbol x) ≡ true → all_named solids joints (map node_symbol (take i table)) ≡ true → all_named solids joints (map node_symbol (take (i + 1) (set table i x))) ≡ true
named_more solids joints table i x within it so_far =
    ap (λ l. all_named solids joints (map node_symbol l)) (take_more_set table i x within)
    ∙ ap (all_named solids joints) (map-append node_symbol (take i table) (x ∷ []))
    ∙ all_named_push solids joints (map node_symbol (take i table)) (node_symbol x) so_far it
