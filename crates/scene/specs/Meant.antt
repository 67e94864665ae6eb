-- What the tables of a list, and of a scene, mean: the distances of their solids, the radii and fillets of their
-- joints. Assumes nothing.
use Rattle.joints.specs.declared.joint.Joint as joint
use Rattle.solids.specs.declared.solid.Solid as solid
use Rattle.scene.specs.declared.listing.Listing.{Listing}
use Rattle.scene.specs.declared.scene.Scene.{Scene}
use Rattle.tree.specs.Parts.{Parts, parts}

module _ {S J : Type 0} (s : solid.Ghosts S) (j : joint.Ghosts J) where
  abbrev pub listed : Listing S J → Parts
  listed l = parts s.dist j.radius j.fillet l.solids.now l.joints.now

  abbrev pub placed : Scene S J → Parts
  placed c = parts s.dist j.radius j.fillet c.solids.now c.joints.now
