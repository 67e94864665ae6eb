use Rattle.solids.proofs.Casts.{inside, inside_small, outside, read_bound}
use Rattle.solids.proofs.distances.box_distance.Goals as goal

pub returns-then-greatest-le0 : goal.returns-then-greatest-le0
returns-then-greatest-le0 c =
    let a = c.max.result in
    let t = c.max-greatest.result in
    record {
      value = inside c.args.x c.args.y c.args.z a t c.ranges.x c.ranges.y c.ranges.z (record { sfits = c.max.type_inv }) c.max.ensures.value c.max-greatest.ensures.value (record { sfits = c.max-greatest.type_inv }) c.if-greatest-le0.true;
      bound = inside_small c.args.x c.args.y c.args.z a t c.ranges.x c.ranges.y c.ranges.z (record { sfits = c.max.type_inv }) c.max.ensures.value c.max-greatest.ensures.value c.requires.x_small c.requires.y_small c.requires.z_small;
    }

pub returns-else-greatest-le0 : goal.returns-else-greatest-le0
returns-else-greatest-le0 c =
    let a = c.max.result in
    let t = c.max-greatest.result in
    record {
      value = outside c.args.x c.args.y c.args.z a t c.ranges.x c.ranges.y c.ranges.z (record { sfits = c.max.type_inv }) c.max.ensures.value c.max-greatest.ensures.value
          c.positive_square.result c.positive_square-else-greatest-le0.result c.positive_square-else-greatest-le0-2.result c.root_of.result
          c.positive_square.ensures.value c.positive_square-else-greatest-le0.ensures.value c.positive_square-else-greatest-le0-2.ensures.value c.root_of.ensures.value
          (record { sfits = c.max-greatest.type_inv }) (record { sfits = c.root_of.type_inv }) c.if-greatest-le0.false;
      bound = read_bound c.root_of.result c.root_of.ensures.bound;
    }
