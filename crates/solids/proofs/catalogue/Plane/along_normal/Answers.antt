use Rattle.std.proofs.Common.{◌*ℤ◌}
use Rattle.solids.proofs.Casts.{product_read, three_fit, sum_read, sum_small}
use Rattle.solids.proofs.catalogue.Plane.along_normal.Goals as goal

pub overflow_add-result-2 : goal.overflow_add-result-2
overflow_add-result-2 c =
    three_fit c.product.result c.product-2.result c.product-3.result
    c.product.ensures.bound c.product-2.ensures.bound c.product-3.ensures.bound

pub returns : goal.returns
returns c =
    let s = c.args.self.now in
    let p = c.args.p in
    let a = c.product.result in
    let b = c.product-2.result in
    let d = c.product-3.result in
    let h = c.product.ensures.bound in
    let i = c.product-2.ensures.bound in
    let j = c.product-3.ensures.bound in
    record {
      value = sum_read a b d h i j (s.normal_x *ℤ p.x) (s.normal_y *ℤ p.y) (s.normal_z *ℤ p.z)
          (product_read s.normal_x p.x a s.normal_x_in p.x_in c.product.ensures.value)
          (product_read s.normal_y p.y b s.normal_y_in p.y_in c.product-2.ensures.value)
          (product_read s.normal_z p.z d s.normal_z_in p.z_in c.product-3.ensures.value);
      bound = sum_small a b d h i j;
    }
