-- How the cut-down trees that wait lie in a free part: one after another, from its start. Assumes nothing.
use Rattle.std.specs.Prelude.{◌≡◌, ℕ, ◌+◌, ◌<◌, ◌≤◌, List, [], ◌∷◌, map, length, take, drop}
use Rattle.scene.specs.declared.block.Block.{Block}
use Rattle.scene.specs.declared.cut.Cut.{Cut}
use Rattle.space.specs.Pt.{Pt}
use Rattle.tree.specs.CutStep.{cut_step}
use Rattle.tree.specs.Parts.{Parts}
use Rattle.tree.specs.Rows.{entry_symbol}
use Rattle.tree.specs.Spell.{Symbol, spell_all}
use Rattle.tree.specs.Tree.{Tree, value}
use Rattle.tree.specs.declared.node.Entry.{Entry}

-- the blocks of trees that wait, with their values at the centre
abbrev pub blocks : Parts → Pt → List Tree → List Block
blocks P centre [] = []
blocks P centre (t ∷ trees) = record { value = value P t centre; start = length (spell_all trees) } ∷ blocks P centre trees

-- the first n entries of the free part are the lists of these trees
pub record Laid (P : Parts) (centre : Pt) (trees : List Tree) (free : List Entry) (n : ℕ) (waiting : List Block) : Type 0 where
  pub front : map entry_symbol (take n free) ≡ spell_all trees
  pub many : n ≡ length (spell_all trees)
  pub wait : waiting ≡ blocks P centre trees

-- blocks that lie one after another and hold something each, the last of them up to n
abbrev pub Stacked : List Block → ℕ → Type 0
Stacked [] n = Unit {0}
Stacked (b ∷ waiting) n = (b.start < n) × Stacked waiting b.start

-- one symbol more: whatever trees lay there, those that the step makes of them lie there now
abbrev pub Steps : Parts → Pt → ℕ → Symbol → (was is : Cut) → Type 0
Steps P centre R s was is =
    (trees : List Tree) → Laid P centre trees was.free.now was.written was.waiting
    → Laid P centre (cut_step P centre R s trees) is.free.now is.written is.waiting

-- at most one entry more is written, into the same free part, and behind it the part is as before
pub record GrownByOne (was is : Cut) : Type 0 where
  pub grown : is.written ≤ was.written + 1
  pub same_part : is.free.ghost_name ≡ was.free.ghost_name
  pub len : length is.free.now ≡ length was.free.now
  pub beyond : drop (was.written + 1) is.free.now ≡ drop (was.written + 1) was.free.now
