-- What a `Cell` stands for, and what its calls come to. Assumes nothing.
use Rattle.std.specs.Prelude.{ℕ, cond, ◌&&◌, Some, None, Option, nat_lt}
use Rattle.space.specs.At.{at}
use Rattle.space.specs.Pt.{Pt}
use Rattle.cells.specs.Cells.{Cube, child, has, child_toward}
use Rattle.cells.specs.declared.cell.Cell.{Cell}

abbrev pub cube : Cell → Cube
cube c = record { level = c.level; low = at c.low }

abbrev pub seen : Option Cell → Option Cube
seen None = None
seen (Some c) = Some (cube c)

-- a number below 64 names a child, but for the cubes of level 7
abbrev pub child_outcome : Cube → ℕ → Option Cube
child_outcome c n = cond (nat_lt n 64 && nat_lt c.level 7) (Some (child c n)) None

-- the number of the child that has the point, where the cube has it and there are children
abbrev pub toward_outcome : Cube → Pt → Option ℕ
toward_outcome c p = cond (nat_lt c.level 7 && has c p) (Some (child_toward c p)) None
