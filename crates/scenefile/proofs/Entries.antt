-- The whole list entry by entry. Assumes nothing.
use Rattle.std.proofs.Common.{◌≡◌, ℕ, zero, suc, ◌+◌, ◌<◌, List, [], ◌∷◌, ◌++◌, length, get_or, take, drop, set, sym, refl, ap, ◌∙◌, le_of_suc-le-suc, not-suc-le-zero, add-one, arith}
use Rattle.std.proofs.lemmas.List.{take_more, take_more_set}
use Rattle.tree.specs.Rows.{cut_next, node_entry, whole_entries}
use Rattle.tree.specs.declared.node.Entry.{Entry}
use Rattle.tree.specs.declared.node.Node.{Node}

pub length_whole : (nodes : List Node) → length (whole_entries nodes) ≡ length nodes
unfolding whole_entries
length_whole [] = refl
length_whole (x ∷ rest) = ap suc (length_whole rest)

entry_at : (nodes : List Node) (i : ℕ) (d : Node) (e : Entry) → i < length nodes → get_or (whole_entries nodes) i e ≡ node_entry (cut_next (drop (suc i) nodes)) (get_or nodes i d)
unfolding whole_entries
entry_at [] i d e h = absurd (not-suc-le-zero h)
entry_at (x ∷ rest) zero d e h = refl
entry_at (x ∷ rest) (suc i) d e h = entry_at rest i d e (le_of_suc-le-suc h)

-- one entry more
pub entries_more : (nodes : List Node) (list : List Entry) (i : ℕ) (d : Node) (x : Entry) → i < length nodes → i < length list → x ≡ node_entry (cut_next (drop (i + 1) nodes)) (get_or nodes i d) → take i list ≡ take i (whole_entries nodes) → take (i + 1) (set list i x) ≡ take (i + 1) (whole_entries nodes)
entries_more nodes list i d x in_nodes in_List is so_far =
    let in_whole : i < length (whole_entries nodes) = omega (arith, length_whole nodes) in
    let there : get_or (whole_entries nodes) i x ≡ x = entry_at nodes i d x in_nodes ∙ sym (is ∙ ap (λ k. node_entry (cut_next (drop k nodes)) (get_or nodes i d)) (add-one i)) in
    take_more_set list i x in_List
    ∙ ap (λ front. front ++ (x ∷ [])) so_far
    ∙ ap (λ y. take i (whole_entries nodes) ++ (y ∷ [])) (sym there)
    ∙ sym (take_more (whole_entries nodes) i x in_whole)
