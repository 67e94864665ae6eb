use Rattle.std.proofs.Common.{◌≤◌, arith}
use Rattle.std.proofs.lemmas.Int.{ints}
use Rattle.solids.specs.Bounds.{root_small}
use Rattle.solids.proofs.distances.root_of.Goals as goal

small : (c : goal.After-floor_root) → c.floor_root.result ≤ 65535
small c = omega (arith, root_small c.args.squared c.well_formed.0.1)

pub overflow_cast-result : goal.overflow_cast-result
overflow_cast-result c = let k = small c in omega (arith, ints)

pub returns : goal.returns
returns c = let k = small c in record { value = omega (arith, ints); bound = omega (arith, ints) }
