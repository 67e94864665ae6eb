-- Which of an operator's operands is kept where it drops out, and how a turn is combined. Assumes nothing.
use Rattle.std.specs.Prelude.{Bool, not, ℤ, int_lt}
use Rattle.tree.specs.Tree.{Op, union, common, cut}
use Rattle.tree.specs.Whole.{flipped}
use Rattle.tree.specs.declared.node.Entry.{Entry}

-- a union keeps the lesser, a common the greater: whether that is the first
abbrev pub keeps_first : Op → ℤ → ℤ → Bool
keeps_first union a b = int_lt a b
keeps_first common a b = not (int_lt a b)
keeps_first cut a b = not (int_lt a b)

-- an entry whose turn is combined with another's
abbrev pub entry_turned_by : Bool → Entry → Entry
entry_turned_by turned e = record { kind = e.kind; turned = flipped turned e.turned; number = e.number }
