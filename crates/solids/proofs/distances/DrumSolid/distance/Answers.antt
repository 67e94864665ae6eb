use Rattle.std.proofs.Common.{pos, ◌-ℤ◌, ap, ◌∙◌, ap₂, arith, w32, SFits}
use Rattle.std.specs.Int.{int_max}
use Rattle.std.proofs.lemmas.Int.{to_z-of_z}
use Rattle.space.specs.Root.{root}
use Rattle.solids.specs.Drum.{drum_distance}
use Rattle.solids.proofs.Casts.{less, less_flat}
use Rattle.solids.proofs.distances.DrumSolid.distance.Goals as goal

pub returns : goal.returns
unfolding drum_distance
returns c =
    let s = c.args.self.now in
    let m = c.max.result in
    let fits : SFits w32 m = record { sfits = c.max.type_inv } in
    to_z-of_z w32 m fits
    ∙ c.max.ensures.value
    ∙ rw (c.from.ensures, c.from-2.ensures, c.from-3.ensures) (ap₂ int_max
    (less c.root_of.result _ s.radius (c.root_of.ensures.value ∙ ap (λ n. pos (root n)) c.squared_across.ensures) c.root_of.ensures.bound (omega (arith, s.radius_in)))
    (less_flat c.along.result s.half_height (omega (arith, c.along.type_inv)) (omega (arith, s.half_height_in)) ∙ ap (λ n. pos n -ℤ pos s.half_height) c.along.ensures))
