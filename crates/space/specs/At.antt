-- What a `Point` stands for, and what comes of three numbers. Assumes nothing.
use Rattle.std.specs.Prelude.{ℕ, suc, Bool, cond, ◌&&◌, List, [], ◌∷◌, ℤ, pos, negsuc, Some, None, Ok, Err, Option, Result, int_le}
use Rattle.space.specs.Pt.{Pt}
use Rattle.space.specs.declared.point.Point.{Point}
use Rattle.space.specs.declared.refusal.Refusal.{Refusal}
use Rattle.space.specs.declared.refusal.Refusal.TheVariants.{Outside}

abbrev pub at : Point → Pt
at p = record { x = p.x; y = p.y; z = p.z }

-- whether a number can be a coordinate
abbrev pub in_range : ℤ → Bool
in_range a = int_le (negsuc 8191) a && int_le a (pos 8191)

-- the place of the first number that cannot, where the first of the list has place i
abbrev pub first_outside : ℕ → List ℤ → Option ℕ
first_outside i [] = None
first_outside i (a ∷ rest) = cond (in_range a) (first_outside (suc i) rest) (Some i)

abbrev pub or_refused : Option ℕ → Pt → Result Pt Refusal
or_refused None p = Ok p
or_refused (Some i) p = Err (Outside i)

-- three numbers are a point, or are refused at the first that cannot be a coordinate
abbrev pub pt_outcome : ℤ → ℤ → ℤ → Result Pt Refusal
pt_outcome x y z = or_refused (first_outside 1 (x ∷ y ∷ z ∷ [])) (record { x = x; y = y; z = z })

abbrev pub seen : Result Point Refusal → Result Pt Refusal
seen (Ok p) = Ok (at p)
seen (Err e) = Err e
