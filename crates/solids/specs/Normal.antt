-- The square of a plane's normal. Assumes nothing.
use Rattle.std.specs.Prelude.{ℕ, ◌+◌, ℤ}
use Rattle.space.specs.Pt.{square}

abbrev pub normal² : ℤ → ℤ → ℤ → ℕ
normal² x y z = square x + square y + square z
