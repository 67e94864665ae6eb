-- Twin tables agree. Assumes nothing.
use Rattle.std.proofs.Common.{◌≡◌, suc, List, [], ◌∷◌, length, sym, refl, ap, ◌∙◌, subst₂}
use lib.ListN.{length-map}
use Rattle.tree.specs.Rows.{node_symbol, whole_entries}
use Rattle.tree.specs.Spell.{spell}
use Rattle.tree.specs.Tree.{Tree, union, common, cut, leaf, join}
use Rattle.tree.specs.Twins.{Twin, uncut, in_first, in_second, same, back, after}
use Rattle.tree.specs.Whole.{whole}
use Rattle.tree.specs.declared.node.Node.{Node}
use Rattle.tree.proofs.Orders.{spell_one}
use Rattle.tree.proofs.Twinning.{twin_value, twin_length}
use Rattle.paths.specs.TwinTables.{Spells, TwinTables, TwinsAgree, TwinTablesLaw}
use Rattle.paths.proofs.Alikes.{held_alike}

length_whole : (nodes : List Node) → length (whole_entries nodes) ≡ length nodes
unfolding whole_entries
length_whole [] = refl
length_whole (row ∷ rest) = ap suc (length_whole rest)

spelt_length : (nodes : List Node) (t : Tree) → Spells nodes t → length (whole_entries nodes) ≡ length (spell t)
spelt_length nodes t e = length_whole nodes ∙ sym (length-map nodes node_symbol) ∙ ap length (sym e)

-- a tree's whole tree is its twin: every cut is exchanged
pub whole_twin : (t : Tree) → Twin t (whole t)
unfolding whole
whole_twin (leaf turned n) = same (leaf turned n)
whole_twin (join union turned n a b) = after (in_first union turned n b (whole_twin a)) (in_second union turned n (whole a) (whole_twin b))
whole_twin (join common turned n a b) = after (in_first common turned n b (whole_twin a)) (in_second common turned n (whole a) (whole_twin b))
whole_twin (join cut turned n a b) =
    after (in_first cut turned n b (whole_twin a)) (after (in_second cut turned n (whole a) (whole_twin b)) (uncut turned n (whole a) (whole b)))

module _ (a b : List Node) (twin : TwinTables a b) where
  -- trees that the tables spell are the twins
  spelt_twins : (t u : Tree) → Spells a t → Spells b u → Twin t u
  spelt_twins t u e f = subst₂ Twin (spell_one twin.first t (twin.first_spelt ∙ sym e)) (spell_one twin.second u (twin.second_spelt ∙ sym f)) twin.twins

  whole_twins : (t u : Tree) → Spells a t → Spells b u → Twin (whole t) (whole u)
  whole_twins t u e f = after (back (whole_twin t)) (after (spelt_twins t u e f) (whole_twin u))

  pub agree : TwinsAgree a b
  agree = record {
    reversed = record { first = twin.second; second = twin.first; first_spelt = twin.second_spelt; second_spelt = twin.first_spelt; twins = back twin.twins };
    distances = λ P p v d. (twin.second, twin.second_spelt, d.2 ∙ twin_value (spelt_twins d.0 twin.second d.1 twin.second_spelt) P p);
    lengths = spelt_length a twin.first twin.first_spelt ∙ twin_length twin.twins ∙ sym (spelt_length b twin.second twin.second_spelt);
    wholes = whole_twins;
    along = λ t u e f P C path. held_alike P C (whole t) (whole u) (whole_twins t u e f) path;
  }

pub twin_tables_law : TwinTablesLaw
twin_tables_law a b twin = agree a b twin
