use Rattle.std.proofs.Common.{◌≡◌, ℤ, ◌-ℤ◌, ◌∙◌, subst, w32, SFits, to_z, of_z}
use Rattle.std.specs.Int.{int_div_euclid}
use Rattle.std.proofs.lemmas.Int.{to_z-of_z}
use Rattle.space.specs.At.{at}
use Rattle.solids.specs.Plane.{along_normal, plane_distance}
use Rattle.solids.specs.Bounds.{length_short}
use Rattle.solids.proofs.Casts.{numerator_fits, divided}
use Rattle.solids.proofs.distances.PlaneSolid.distance.Goals as goal

pub overflow_sub-along_normal : goal.overflow_sub-along_normal
overflow_sub-along_normal c =
    let s = c.args.self.now in
    numerator_fits c.along_normal.result s.offset (along_normal s (at c.args.p)) s.length
    c.along_normal.ensures.value c.along_normal.ensures.bound s.offset_in (length_short s)

pub returns : goal.returns
unfolding plane_distance
returns c =
    let s = c.args.self.now in
    let q = c.div_euclid.result in
    let fits : SFits w32 q = record { sfits = c.div_euclid.type_inv } in
    let quotient = subst (λ (k : ℤ). q ≡ int_div_euclid (to_z w32 (of_z w32 (to_z w32 (of_z w32 c.along_normal.result) -ℤ to_z w32 (of_z w32 s.offset)))) (to_z w32 (of_z w32 k))) c.from.ensures c.div_euclid.ensures in
    to_z-of_z w32 q fits
    ∙ divided c.along_normal.result s.offset (along_normal s (at c.args.p)) s.length
    c.along_normal.ensures.value c.along_normal.ensures.bound s.offset_in (length_short s) q quotient
