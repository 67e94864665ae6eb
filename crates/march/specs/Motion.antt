-- What a `Motion` stands for, and what comes of seven numbers. Assumes nothing.
use Rattle.std.specs.Prelude.{ℕ, Bool, cond, ◌&&◌, List, [], ◌∷◌, ℤ, pos, Some, None, Ok, Err, Option, Result, int_le, slice_index_or, unsigned_abs}
use Rattle.space.specs.At.{at, first_outside}
use Rattle.space.specs.Pt.{Pt}
use Rattle.space.specs.declared.refusal.Refusal.{Refusal}
use Rattle.space.specs.declared.refusal.Refusal.TheVariants.{Outside}
use Rattle.march.specs.Route.{Route}
use Rattle.march.specs.declared.motion.Motion.{Motion}

abbrev pub route : Motion → Route
route m = record { from = at m.from; to = at m.to; margin = m.margin }

-- the coordinates of an array of three numbers
abbrev pub triple : List ℤ → Pt
triple l = record { x = slice_index_or l 0 (pos 0); y = slice_index_or l 1 (pos 0); z = slice_index_or l 2 (pos 0) }

-- whether a number can be a margin
abbrev pub in_margin : ℤ → Bool
in_margin m = int_le (pos 0) m && int_le m (pos 4095)

-- with the place of the first coordinate that is outside
abbrev pub margin_or_refused : Option ℕ → Pt → Pt → ℤ → Result Route Refusal
margin_or_refused (Some i) a b m = Err (Outside i)
margin_or_refused None a b m = cond (in_margin m) (Ok (record { from = a; to = b; margin = unsigned_abs m })) (Err (Outside 7))

-- seven numbers are a motion, or are refused at the first that is outside
abbrev pub motion_outcome : Pt → Pt → ℤ → Result Route Refusal
motion_outcome a b m = margin_or_refused (first_outside 1 (a.x ∷ a.y ∷ a.z ∷ b.x ∷ b.y ∷ b.z ∷ [])) a b m

abbrev pub seen : Result Motion Refusal → Result Route Refusal
seen (Ok m) = Ok (route m)
seen (Err e) = Err e
