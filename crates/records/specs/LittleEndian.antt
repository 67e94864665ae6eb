-- Numbers as bytes, the low byte first. Assumes nothing.
use Rattle.std.specs.Prelude.{ℕ, ◌/◌, ◌%◌, List, [], ◌∷◌, ℤ}
use Rattle.std.specs.Int.{w16, w32}
use Rattle.std.proofs.Common.{of_z}

abbrev pub u16_le : ℕ → List ℕ
u16_le n = n % 256 ∷ n / 256 ∷ []

abbrev pub u32_le : ℕ → List ℕ
u32_le n = n % 256 ∷ n / 256 % 256 ∷ n / 65536 % 256 ∷ n / 16777216 ∷ []

-- a signed number stands by its two's complement
abbrev pub i16_le : ℤ → List ℕ
i16_le a = u16_le (of_z w16 a)

abbrev pub i32_le : ℤ → List ℕ
i32_le a = u32_le (of_z w32 a)
