-- The distance of a solid of the catalogue: that of its kind. Assumes nothing.
use Rattle.std.specs.Prelude.{ℤ}
use Rattle.space.specs.Pt.{Pt}
use Rattle.solids.specs.Ball.{ball_distance}
use Rattle.solids.specs.Block.{block_distance}
use Rattle.solids.specs.Drum.{drum_distance}
use Rattle.solids.specs.Plane.{plane_distance}
use Rattle.solids.specs.declared.catalogue.CatalogueSolid.{CatalogueSolid}
use Rattle.solids.specs.declared.catalogue.CatalogueSolid.TheVariants.{Ball, Block, Plane, Drum}

abbrev pub catalogue_distance : CatalogueSolid → Pt → ℤ
catalogue_distance (Ball s) p = ball_distance s p
catalogue_distance (Block s) p = block_distance s p
catalogue_distance (Plane s) p = plane_distance s p
catalogue_distance (Drum s) p = drum_distance s p
