-- The number that stands for an axis. Assumes nothing.
use Rattle.std.specs.Prelude.{ℕ}
use Rattle.solids.specs.declared.catalogue.Axis.{Axis}
use Rattle.solids.specs.declared.catalogue.Axis.TheVariants.{X, Y, Z}

abbrev pub axis_number : Axis → ℕ
axis_number X = 0
axis_number Y = 1
axis_number Z = 2
