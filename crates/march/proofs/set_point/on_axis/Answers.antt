use Rattle.std.proofs.Common.{◌<◌, arith, w32, SFits}
use Rattle.march.proofs.Axes.{product_fits, sum_fits, cast_fits, handed_on}
use Rattle.march.proofs.set_point.on_axis.Goals as goal

pub overflow_mul-scaled : goal.overflow_mul-scaled
overflow_mul-scaled c =
    let few : c.args.i < 65536 = omega arith in
    product_fits c.args.a c.args.b c.args.n c.args.i c.from-2.result c.from.result c.from-3.result c.requires.a_in c.requires.b_in few c.from-2.ensures c.from.ensures c.from-3.ensures

pub overflow_add-result : goal.overflow_add-result
overflow_add-result c =
    let few : c.args.i < 65536 = omega arith in
    let wide : c.args.n < 65536 = omega arith in
    let some : 0 < c.args.n = omega arith in
    let fits : SFits w32 c.div_euclid.result = record { sfits = c.div_euclid.type_inv } in
    sum_fits c.args.a c.args.b c.args.n c.args.i c.from-2.result c.from.result c.from-3.result c.requires.a_in c.requires.b_in few c.from-2.ensures c.from.ensures c.from-3.ensures
    c.from-4.result c.from-5.result c.div_euclid.result c.from-4.ensures some wide c.requires.within c.from-5.ensures fits c.div_euclid.ensures

pub overflow_cast-result : goal.overflow_cast-result
overflow_cast-result c =
    let few : c.args.i < 65536 = omega arith in
    let wide : c.args.n < 65536 = omega arith in
    let some : 0 < c.args.n = omega arith in
    let fits : SFits w32 c.div_euclid.result = record { sfits = c.div_euclid.type_inv } in
    cast_fits c.args.a c.args.b c.args.n c.args.i c.from-2.result c.from.result c.from-3.result c.requires.a_in c.requires.b_in few c.from-2.ensures c.from.ensures c.from-3.ensures
    c.from-4.result c.from-5.result c.div_euclid.result c.from-4.ensures some wide c.requires.within c.from-5.ensures fits c.div_euclid.ensures

pub returns : goal.returns
returns c =
    let few : c.args.i < 65536 = omega arith in
    let wide : c.args.n < 65536 = omega arith in
    let some : 0 < c.args.n = omega arith in
    let fits : SFits w32 c.div_euclid.result = record { sfits = c.div_euclid.type_inv } in
    handed_on c.args.a c.args.b c.args.n c.args.i c.from-2.result c.from.result c.from-3.result c.requires.a_in c.requires.b_in few c.from-2.ensures c.from.ensures c.from-3.ensures
    c.from-4.result c.from-5.result c.div_euclid.result c.from-4.ensures some wide c.requires.within c.from-5.ensures fits c.div_euclid.ensures
