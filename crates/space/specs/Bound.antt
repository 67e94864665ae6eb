-- A bound of a distance: less than the distance itself, but enough to know its sign. Assumes nothing.
use Rattle.std.specs.Prelude.{◌≡◌, ℕ, ◌<◌, ◌≤◌, ℤ, pos, negsuc, neg_ℤ, unsigned_abs}

-- a number of this size under the sign of d
abbrev pub signed_as : ℤ → ℕ → ℤ
signed_as (pos d) n = pos n
signed_as (negsuc d) n = neg_ℤ (pos n)

-- a bound of a distance: not 0, of its sign, not greater in size
pub record Bound (c v : ℤ) : Type 0 where
  pub not_zero : 0 < unsigned_abs c
  pub sign : signed_as c (unsigned_abs v) ≡ v
  pub size : unsigned_abs c ≤ unsigned_abs v
