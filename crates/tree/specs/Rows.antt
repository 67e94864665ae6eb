-- Rows of node tables and lists: what they mean in the theory, and the whole list row by row. Assumes nothing.
use Rattle.std.specs.Prelude.{◌≡◌, ℕ, Bool, true, false, List, [], ◌∷◌, map}
use Rattle.tree.specs.Spell.{Symbol, solid, operator}
use Rattle.tree.specs.Tree.{Op, union, common, cut}
use Rattle.tree.specs.Whole.{flipped, whole_list}
use Rattle.tree.specs.declared.node.Blend as b
use Rattle.tree.specs.declared.node.Blend.{Blend}
use Rattle.tree.specs.declared.node.Entry.{Entry}
use Rattle.tree.specs.declared.node.EntryKind as e
use Rattle.tree.specs.declared.node.EntryKind.{EntryKind}
use Rattle.tree.specs.declared.node.Node.{Node}
use Rattle.tree.specs.declared.node.NodeKind as n
use Rattle.tree.specs.declared.node.NodeKind.{NodeKind}

abbrev pub node_symbol_of : NodeKind → Bool → ℕ → Symbol
node_symbol_of n.TheVariants.Solid turned number = solid turned number
node_symbol_of n.TheVariants.Union turned number = operator union turned number
node_symbol_of n.TheVariants.Common turned number = operator common turned number
node_symbol_of n.TheVariants.Cut turned number = operator cut turned number

abbrev pub node_symbol : Node → Symbol
node_symbol row = node_symbol_of row.kind row.turned row.number

abbrev pub blend_op : Blend → Op
blend_op b.TheVariants.Union = union
blend_op b.TheVariants.Common = common

abbrev pub entry_symbol_of : EntryKind → Bool → ℕ → Symbol
entry_symbol_of e.TheVariants.Solid turned number = solid turned number
entry_symbol_of (e.TheVariants.Operator blend) turned number = operator (blend_op blend) turned number

abbrev pub entry_symbol : Entry → Symbol
entry_symbol row = entry_symbol_of row.kind row.turned row.number

-- the kind of a node's entry: a cut becomes a common
abbrev pub entry_kind : NodeKind → EntryKind
entry_kind n.TheVariants.Solid = e.TheVariants.Solid
entry_kind n.TheVariants.Union = e.TheVariants.Operator b.TheVariants.Union
entry_kind n.TheVariants.Common = e.TheVariants.Operator b.TheVariants.Common
entry_kind n.TheVariants.Cut = e.TheVariants.Operator b.TheVariants.Common

abbrev pub is_cut_kind : NodeKind → Bool
is_cut_kind n.TheVariants.Solid = false
is_cut_kind n.TheVariants.Union = false
is_cut_kind n.TheVariants.Common = false
is_cut_kind n.TheVariants.Cut = true

abbrev pub cut_next : List Node → Bool
cut_next [] = false
cut_next (row ∷ rest) = is_cut_kind row.kind

-- a node's entry, turned over where it is the second operand of a cut, which then follows it
abbrev pub node_entry : Bool → Node → Entry
node_entry cut_follows row = record { kind = entry_kind row.kind; turned = flipped cut_follows row.turned; number = row.number }

unfoldable pub whole_entries : List Node → List Entry
whole_entries [] = []
whole_entries (row ∷ rest) = node_entry (cut_next rest) row ∷ whole_entries rest

-- What it is for: the entries are the symbols of the whole list.
abbrev pub EntriesLaw : Type 0
EntriesLaw = (nodes : List Node) → map entry_symbol (whole_entries nodes) ≡ whole_list false (map node_symbol nodes)
