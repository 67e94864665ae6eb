-- What a reading tells of a distance. Assumes nothing.
use Rattle.std.specs.Prelude.{◌≡◌, ℤ}
use Rattle.space.specs.Bound as b
use Rattle.march.specs.declared.reading.Reading.{Reading}
use Rattle.march.specs.declared.reading.Reading.TheVariants.{Exact, Bound}

-- exact: it is the distance; a bound: not 0, of its sign, not greater in size
abbrev pub Tells : Reading → ℤ → Type 0
Tells (Exact v) d = v ≡ d
Tells (Bound c) d = b.Bound c d
