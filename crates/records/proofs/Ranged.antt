-- Three numbers are a point where each is in the range, and no point otherwise. Assumes nothing.
use Rattle.std.proofs.Common.{◌≡◌, ℕ, ◌≤◌, true, ℤ, pos, negsuc, Some, None, Ok, Err, Option, Result, leb, sym, refl, ap, ◌∙◌, arith, SFits, w16, w32, to_z, of_z}
use Rattle.std.specs.Result.{result_ok}
use Rattle.std.proofs.lemmas.Bool.{and_from, le-leb}
use Rattle.std.proofs.lemmas.Int.{ints}
use Rattle.space.specs.At.{at, in_range, or_refused, pt_outcome, seen}
use Rattle.space.specs.Pt.{Pt, InRange}
use Rattle.space.specs.declared.point.Point.{Point}
use Rattle.space.specs.declared.refusal.Refusal.{Refusal}
use Rattle.records.specs.Reads.{Reads}

tested : (a : ℤ) → InRange a → in_range a ≡ true
tested (pos n) h = let few : n ≤ 8191 = omega (arith, ints) in and_from true (leb n 8191) refl (le-leb n 8191 few)
tested (negsuc n) h = let few : n ≤ 8191 = omega (arith, ints) in and_from (leb n 8191) true (le-leb n 8191 few) refl

of_point : (p : Point) → pt_outcome p.x p.y p.z ≡ Ok (at p)
of_point p = rw (tested p.x p.x_in, tested p.y p.y_in, tested p.z p.z_in) refl

no_error : {A B : Type 0} (x : A) (e : B) → ◌≡◌ {A = Result A B} (Ok x) (Err e) → ⊥
no_error x e h = cc

as_given : (o : Option ℕ) (p q : Pt) → ◌≡◌ {A = Result Pt Refusal} (Ok p) (or_refused o q) → p ≡ q
as_given None p q h = cc
as_given (Some i) p q h = absurd (no_error _ _ h)

pub reads_point : (q : Pt) (r : Result Point Refusal) (o : Option Point) → seen r ≡ pt_outcome q.x q.y q.z → o ≡ result_ok r → Reads at q o
reads_point q (Ok p) o is ok = rw ok (as_given _ (at p) q is)
reads_point q (Err e) o is ok = rw ok (λ p same. no_error _ _ (sym (of_point p) ∙ ap (λ (v : Pt). pt_outcome v.x v.y v.z) same ∙ sym is))

-- a number of 16 bits, as one of 32
pub wide : (a r : ℤ) → SFits w16 a → r ≡ to_z w16 (of_z w16 a) → to_z w32 (of_z w32 r) ≡ a
wide a r fits is = omega (arith, ints)
