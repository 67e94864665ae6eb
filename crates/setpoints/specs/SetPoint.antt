-- The set points from a point to another. Assumes nothing.
use Rattle.std.specs.Prelude.{ℕ, zero, suc, max, ℤ, pos, ◌+ℤ◌, ◌-ℤ◌, ◌*ℤ◌, unsigned_abs}
use Rattle.space.specs.FloorDiv.{floor_div}
use Rattle.space.specs.Pt.{Pt}

-- N, the number of the last set point: the greatest coordinate difference
abbrev pub reach : Pt → Pt → ℕ
reach a b = max (max (unsigned_abs (b.x -ℤ a.x)) (unsigned_abs (b.y -ℤ a.y))) (unsigned_abs (b.z -ℤ a.z))

-- one coordinate of set point i, 0 to n: a + (b - a)·i / n, rounded down; with n = 0 it is a
abbrev pub on_axis : ℕ → ℤ → ℤ → ℕ → ℤ
on_axis zero a b i = a
on_axis (suc m) a b i = a +ℤ floor_div ((b -ℤ a) *ℤ pos i) (suc m)

unfoldable pub set_point : Pt → Pt → ℕ → Pt
set_point a b i = record {
  x = on_axis (reach a b) a.x b.x i;
  y = on_axis (reach a b) a.y b.y i;
  z = on_axis (reach a b) a.z b.z i;
}
