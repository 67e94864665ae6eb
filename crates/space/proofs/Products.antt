-- Products of whole numbers. Assumes nothing.
use Rattle.std.proofs.Common.{◌≡◌, ℕ, ◌+◌, ◌*◌, ℤ, pos, negsuc, ◌-ℤ◌, ◌*ℤ◌, neg_ℤ, nat_abs, ap, mul-add, arith}
use borrow.Author.Differences.{up, down, same_in, sum_is_lem, neg_is, product_is}
use Rattle.std.proofs.lemmas.Int.{ints}

pub product_abs : (a b : ℤ) → nat_abs (a *ℤ b) ≡ nat_abs a * nat_abs b
product_abs (pos a) (pos b) = omega arith
product_abs (pos a) (negsuc b) = omega (arith, ints)
product_abs (negsuc a) (pos b) = omega (arith, ints)
product_abs (negsuc a) (negsuc b) = omega arith

scale : (k u v w x y z : ℕ) → u + v + w ≡ x + y + z → k * u + k * v + k * w ≡ k * x + k * y + k * z
scale k u v w x y z e = omega (arith, ap (λ t. k * t) e, mul-add k (u + v) w, mul-add k u v, mul-add k (x + y) z, mul-add k x y)

pub distributes : (n a b : ℤ) → n *ℤ a -ℤ n *ℤ b ≡ n *ℤ (a -ℤ b)
distributes n a b =
    let d = a -ℤ b in
    let e : up d + down a + up b ≡ down d + up a + down b = omega (arith, sum_is_lem a (neg_ℤ b), neg_is b) in
    same_in (n *ℤ a -ℤ n *ℤ b) (n *ℤ d) (
    omega (
      arith,
      scale (up n) (up d) (down a) (up b) (down d) (up a) (down b) e,
      scale (down n) (up d) (down a) (up b) (down d) (up a) (down b) e,
      product_is n d,
      product_is n a,
      product_is n b,
      sum_is_lem (n *ℤ a) (neg_ℤ (n *ℤ b)),
      neg_is (n *ℤ b),
    )
    )
