-- Twin node tables. Assumes nothing.
use Rattle.std.specs.Prelude.{◌≡◌, ℕ, List, map, length, ℤ}
use Rattle.space.specs.Pt.{Pt}
use Rattle.tree.specs.Distance.{Distance}
use Rattle.tree.specs.Parts.{Parts}
use Rattle.tree.specs.Rows.{node_symbol, whole_entries}
use Rattle.tree.specs.Spell.{spell}
use Rattle.tree.specs.Tree.{Tree}
use Rattle.tree.specs.Twins.{Twin}
use Rattle.tree.specs.Whole.{whole}
use Rattle.tree.specs.declared.node.Node.{Node}
use Rattle.paths.specs.Held.{held}
use Rattle.paths.specs.TwinPaths.{Alike}

-- the tree that a node table spells
abbrev pub Spells : List Node → Tree → Type 0
Spells nodes t = spell t ≡ map node_symbol nodes

-- two tables that spell twins
pub record TwinTables (a b : List Node) : Type 0 where
  pub first : Tree
  pub second : Tree
  pub first_spelt : Spells a first
  pub second_spelt : Spells b second
  pub twins : Twin first second

-- Twin tables are twins either way round, give one distance at every point and have whole lists of one length; their
-- whole trees are twins, and hold what is alike along every path.
pub record TwinsAgree (a b : List Node) : Type 0 where
  pub reversed : TwinTables b a
  pub distances : (P : Parts) (p : Pt) (v : ℤ) → Distance P (map node_symbol a) p v → Distance P (map node_symbol b) p v
  pub lengths : length (whole_entries a) ≡ length (whole_entries b)
  pub wholes : (t u : Tree) → Spells a t → Spells b u → Twin (whole t) (whole u)
  pub along : (t u : Tree) → Spells a t → Spells b u → (P : Parts) (C : ℕ) (path : List ℕ) → Alike (held P C (whole t) path) (held P C (whole u) path)

abbrev pub TwinTablesLaw : Type 0
TwinTablesLaw = (a b : List Node) → TwinTables a b → TwinsAgree a b
