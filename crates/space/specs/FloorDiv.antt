-- Division rounded toward minus infinity. Assumes nothing.
use Rattle.std.specs.Prelude.{ℕ, ◌/◌, ℤ, pos, negsuc}

-- `negsuc a` is -(a + 1)
abbrev pub floor_div : ℤ → ℕ → ℤ
floor_div (pos a) m = pos (a / m)
floor_div (negsuc a) m = negsuc (a / m)
