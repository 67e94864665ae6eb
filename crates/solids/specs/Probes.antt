-- The laws of the least root to some centres. Assumes nothing.
use Rattle.std.specs.Prelude.{ℕ, ◌≤◌, min, List, [], ◌∷◌, pos, ◌-ℤ◌, unsigned_abs}
use Rattle.std.proofs.Common.{arith}
use Rattle.std.proofs.lemmas.Int.{ints}
use Rattle.space.specs.At.{at}
use Rattle.space.specs.Laws.{DistanceLaw}
use Rattle.space.specs.Pt.{Pt, InSpace, apart²}
use Rattle.space.specs.Root.{root}
use Rattle.space.specs.declared.point.Point.{Point}
use Rattle.solids.specs.Probed.{least, roots}
use Rattle.solids.specs.Keeping.{Roomy, near_root, roomy_apart, stands}

min_near : (k l m n r : ℕ) → unsigned_abs (pos k -ℤ pos l) ≤ r → unsigned_abs (pos m -ℤ pos n) ≤ r → unsigned_abs (pos (min k m) -ℤ pos (min l n)) ≤ r
min_near k l m n r g h = omega (arith, ints)

pub near_least : (centres : List Point) → DistanceLaw (λ p. pos (least (roots p centres)))
near_least [] p q r i j h = omega arith
near_least (c ∷ []) p q r i j h = near_root (at c) p q r i j h
near_least (c ∷ (d ∷ rest)) p q r i j h =
    min_near (root (apart² p (at c))) (root (apart² q (at c))) _ _ r
    (near_root (at c) p q r i j h)
    (near_least (d ∷ rest) p q r i j h)

min_roomy : (m n : ℕ) → Roomy (pos m) → Roomy (pos (min m n))
min_roomy m n g = omega (arith, ints)

pub roomy_least : (centres : List Point) (p : Pt) → InSpace p → Roomy (pos (least (roots p centres)))
roomy_least [] p i = omega (arith, ints)
roomy_least (c ∷ []) p i = roomy_apart (at c) (stands c) p i
roomy_least (c ∷ (d ∷ rest)) p i = min_roomy (root (apart² p (at c))) _ (roomy_apart (at c) (stands c) p i)
