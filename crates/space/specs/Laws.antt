-- The two laws that every solid and every joint keeps. Assumes nothing.
use Rattle.std.specs.Prelude.{◌≡◌, ℕ, suc, ◌*◌, ◌≤◌, ℤ, ◌-ℤ◌, unsigned_abs}
use Rattle.space.specs.Pt.{Pt, InSpace, apart²}

-- the distance law: where two points are at most r apart, their distances differ by at most r
abbrev pub DistanceLaw : (Pt → ℤ) → Type 0
DistanceLaw d = (p q : Pt) (r : ℕ) → InSpace p → InSpace q → apart² p q ≤ r * r → unsigned_abs (d p -ℤ d q) ≤ r

-- the range of a solid's distances: -32,767 to 32,767
abbrev pub DistanceRange : (Pt → ℤ) → Type 0
DistanceRange d = (p : Pt) → InSpace p → unsigned_abs (d p) ≤ 32767

-- the fillet law, of a joint's radius k and its fillet f at each gap
pub record FilletLaw (k : ℕ) (f : ℕ → ℕ) : Type 0 where
  pub limited : k ≤ 2048
  pub ends : (gap : ℕ) → k ≤ gap → f gap ≡ 0
  pub half : (gap : ℕ) → 2 * f gap ≤ k
  pub falls : (gap : ℕ) → f (suc gap) ≤ f gap
  pub slowly : (gap : ℕ) → f gap ≤ suc (f (suc gap))
