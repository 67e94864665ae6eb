-- The solids that tables begin filled with. Assumes nothing.
use Rattle.std.specs.Prelude.{◌≡◌, true}
use Rattle.solids.specs.Unused.{is_origin, all_origin}
use Rattle.solids.specs.declared.catalogue.CatalogueSolid.{CatalogueSolid}
use Rattle.solids.specs.declared.catalogue.CatalogueSolid.TheVariants.{Ball, Block, Plane, Drum}
use Rattle.solids.specs.declared.probed.Probed.{Probed}

-- a ball of radius 0 about the origin
abbrev pub IsFirstBall : CatalogueSolid → Type 0
IsFirstBall (Ball s) = (s.radius ≡ 0) × (is_origin s.centre ≡ true)
IsFirstBall (Block s) = ⊥
IsFirstBall (Plane s) = ⊥
IsFirstBall (Drum s) = ⊥

-- one centre, and all eight at the origin
abbrev pub IsFirstProbed : Probed → Type 0
IsFirstProbed s = (s.count ≡ 1) × (s.radius ≡ 0) × (all_origin s.centres ≡ true)
