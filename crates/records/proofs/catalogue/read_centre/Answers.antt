use Rattle.std.proofs.Common.{w16, SFits, rules}
use Rattle.std.proofs.lemmas.Int.{to_z-of_z}
use Rattle.records.proofs.catalogue.read_centre.Goals as goal

pub returns : goal.returns
returns c =
    let x : SFits w16 c.args.raw.x = search rules in
    let y : SFits w16 c.args.raw.y = search rules in
    let z : SFits w16 c.args.raw.z = search rules in
    simp to_z-of_z at c.point.ensures
