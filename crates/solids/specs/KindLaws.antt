-- Every solid in use keeps the distance law and the range. Assumes nothing.
use Rattle.std.specs.Prelude.{take, pos, ◌-ℤ◌}
use Rattle.std.proofs.Common.{arith}
use Rattle.space.specs.At.{at}
use Rattle.space.specs.Laws.{DistanceLaw, DistanceRange}
use Rattle.space.specs.Pt.{apart²}
use Rattle.space.specs.Root.{root}
use Rattle.solids.specs.Blocks.{sharp, near_sharp, roomy_sharp}
use Rattle.solids.specs.Ball.{ball_distance}
use Rattle.solids.specs.Block.{block_distance}
use Rattle.solids.specs.Catalogue.{catalogue_distance}
use Rattle.solids.specs.Drum.{along, across², drum_distance}
use Rattle.solids.specs.Drums.{near_across, near_along, roomy_across, roomy_along}
use Rattle.solids.specs.Keeping.{near_less, near_max, near_root, ranged_less, ranged_max, roomy_apart, stands}
use Rattle.solids.specs.Planes.{near_plane, ranged_plane}
use Rattle.solids.specs.Probed.{probed_distance, least, roots}
use Rattle.solids.specs.Probes.{near_least, roomy_least}
use Rattle.solids.specs.declared.catalogue.Ball as ball
use Rattle.solids.specs.declared.catalogue.Block as block
use Rattle.solids.specs.declared.catalogue.Drum as drum
use Rattle.solids.specs.declared.catalogue.CatalogueSolid.{CatalogueSolid}
use Rattle.solids.specs.declared.catalogue.CatalogueSolid.TheVariants.{Ball, Block, Plane, Drum}
use Rattle.solids.specs.declared.probed.Probed.{Probed}

pub ball_near : (s : ball.Ball) → DistanceLaw (ball_distance s)
ball_near s = near_less (λ p. pos (root (apart² p (at s.centre)))) s.radius (near_root (at s.centre))

pub ball_ranged : (s : ball.Ball) → DistanceRange (ball_distance s)
ball_ranged s =
    let c = at s.centre in
    ranged_less (λ p. pos (root (apart² p c))) s.radius (roomy_apart c (stands s.centre)) s.radius_in

pub block_near : (s : block.Block) → DistanceLaw (block_distance s)
block_near s = near_less (sharp s) s.radius (near_sharp s)

pub block_ranged : (s : block.Block) → DistanceRange (block_distance s)
block_ranged s = ranged_less (sharp s) s.radius (roomy_sharp s) s.radius_in

pub drum_near : (s : drum.Drum) → DistanceLaw (drum_distance s)
unfolding drum_distance
drum_near s =
    let c = at s.centre in
    near_max
    (λ p. pos (root (across² s.axis p c)) -ℤ pos s.radius)
    (λ p. pos (along s.axis p c) -ℤ pos s.half_height)
    (near_less (λ p. pos (root (across² s.axis p c))) s.radius (near_across s.axis c))
    (near_less (λ p. pos (along s.axis p c)) s.half_height (near_along s.axis c))

pub drum_ranged : (s : drum.Drum) → DistanceRange (drum_distance s)
unfolding drum_distance
drum_ranged s =
    let c = at s.centre in
    ranged_max
    (λ p. pos (root (across² s.axis p c)) -ℤ pos s.radius)
    (λ p. pos (along s.axis p c) -ℤ pos s.half_height)
    (ranged_less (λ p. pos (root (across² s.axis p c))) s.radius (roomy_across s.axis c (stands s.centre)) s.radius_in)
    (ranged_less (λ p. pos (along s.axis p c)) s.half_height (roomy_along s.axis c (stands s.centre)) s.half_height_in)

pub catalogue_near : (s : CatalogueSolid) → DistanceLaw (catalogue_distance s)
catalogue_near (Ball s) = ball_near s
catalogue_near (Block s) = block_near s
catalogue_near (Plane s) = near_plane s
catalogue_near (Drum s) = drum_near s

pub catalogue_ranged : (s : CatalogueSolid) → DistanceRange (catalogue_distance s)
catalogue_ranged (Ball s) = ball_ranged s
catalogue_ranged (Block s) = block_ranged s
catalogue_ranged (Plane s) = ranged_plane s
catalogue_ranged (Drum s) = drum_ranged s

pub probed_near : (s : Probed) → DistanceLaw (probed_distance s)
unfolding probed_distance
probed_near s =
    let centres = take s.count s.centres in
    near_less (λ p. pos (least (roots p centres))) s.radius (near_least centres)

pub probed_ranged : (s : Probed) → DistanceRange (probed_distance s)
unfolding probed_distance
probed_ranged s =
    let centres = take s.count s.centres in
    ranged_less (λ p. pos (least (roots p centres))) s.radius (roomy_least centres) (omega (arith, s.radius_in))
