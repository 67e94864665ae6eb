-- The laws of a block's distance. Assumes nothing.
use Rattle.std.specs.Prelude.{◌≡◌, ℕ, zero, suc, ◌+◌, ◌*◌, ◌<◌, ◌≤◌, true, false, ℤ, pos, negsuc, ◌+ℤ◌, ◌-ℤ◌, ◌≤ℤ◌, ◌<ℤ◌, int_le, unsigned_abs, refl}
use Rattle.std.proofs.Common.{add-mul, mul-le-mul_right, zero-mul, arith}
use Rattle.std.specs.Int.{int_max}
use Rattle.std.proofs.lemmas.Int.{ints, clamps}
use Rattle.std.proofs.lemmas.Bool.{cond_both}
use Rattle.space.specs.Laws.{DistanceLaw}
use Rattle.space.specs.Pt.{Pt, InRange, InSpace}
use Rattle.space.specs.Root.{root}
use Rattle.space.proofs.Roots.{root_is, square_le}
use Rattle.space.proofs.Triangles.{squares, square_le_back, expanded, root_triangle}
use Rattle.solids.specs.Block.{excess, greatest, positive_square, box_distance}
use Rattle.solids.specs.declared.catalogue.Block.{Block}
use Rattle.solids.specs.Keeping.{Roomy, root_roomy, roomy_root}

-- ---- from inside to outside

-- what a adds to the square of v, if v is not 0
lift : ℕ → ℕ → ℕ
lift zero a = 0
lift (suc v) a = a * a

one_axis : (v a d : ℕ) → (0 < v → v + a ≤ d) → v * v + (v * a + v * a) + lift v a ≤ d * d
unfolding lift
one_axis zero a d h = omega (arith, zero-mul a)
one_axis (suc v) a d h = omega (arith, expanded (suc v) a, square_le (h (omega arith)))

lifted : (u v w a : ℕ) → 0 < u + v + w → a * a ≤ lift u a + lift v a + lift w a
unfolding lift
lifted (suc u) v w a h = omega arith
lifted zero (suc v) w a h = omega arith
lifted zero zero (suc w) a h = omega arith
lifted zero zero zero a h = omega arith

-- a point a deep that goes r gets no farther out than r less a
emerged : (u v w a d₁ d₂ d₃ r n : ℕ)
    → (0 < u → u + a ≤ d₁) → (0 < v → v + a ≤ d₂) → (0 < w → w + a ≤ d₃)
    → squares d₁ d₂ d₃ ≤ r * r → n * n ≤ squares u v w → 0 < u + v + w
    → n + a ≤ r
emerged u v w a d₁ d₂ d₃ r n h₁ h₂ h₃ hd hn some =
    let t = u + v + w in
    let below = square_le_back n t (omega (arith, expanded (u + v) w, expanded u v)) in
    let wide = mul-le-mul_right a below in
    square_le_back (n + a) r (
    omega (
      arith,
      expanded n a,
      wide,
      add-mul (u + v) w a,
      add-mul u v a,
      one_axis u a d₁ h₁,
      one_axis v a d₂ h₂,
      one_axis w a d₃ h₃,
      lifted u v w a some,
    )
    )

-- ---- excesses

-- an excess, or 0 inside
abbrev out : ℤ → ℕ
out (pos n) = n
out (negsuc n) = 0

out_square : (e : ℤ) → positive_square e ≡ out e * out e
out_square (pos n) = refl
out_square (negsuc n) = refl

out_rises : (e f : ℤ) (d : ℕ) → e ≤ℤ (f +ℤ pos d) → out e ≤ d + out f
out_rises (pos m) (pos n) d h = omega (arith, ints)
out_rises (pos m) (negsuc n) d h = omega (arith, ints)
out_rises (negsuc m) (pos n) d h = omega arith
out_rises (negsuc m) (negsuc n) d h = omega arith

-- at least a deep before, out by v after
out_emerges : (e f : ℤ) (a d : ℕ) → e ≤ℤ (f +ℤ pos d) → (f +ℤ pos a) ≤ℤ pos 0 → 0 < out e → out e + a ≤ d
out_emerges (pos m) f a d h k s = omega (arith, ints)
out_emerges (negsuc m) f a d h k s = omega arith

out_above : (e : ℤ) → e ≤ℤ pos (out e)
out_above (pos n) = omega (arith, ints)
out_above (negsuc n) = omega (arith, ints)

out_some : (x y z : ℤ) → pos 0 <ℤ greatest x y z → 0 < out x + out y + out z
out_some x y z h = omega (arith, ints, clamps, out_above x, out_above y, out_above z)

out_small : (e : ℤ) (n : ℕ) → unsigned_abs e ≤ n → out e ≤ n
out_small (pos m) n h = h
out_small (negsuc m) n h = omega arith

-- ---- the box

by_box : (P : ℤ → Type 0) (x y z : ℤ)
    → (greatest x y z ≤ℤ pos 0 → P (greatest x y z))
    → (pos 0 <ℤ greatest x y z → P (pos (root (positive_square x + positive_square y + positive_square z))))
    → P (box_distance x y z)
unfolding box_distance
by_box P x y z f g =
    cond_both (int_le (greatest x y z) (pos 0)) _ _ P
    (λ e. f (at_most (greatest x y z) e))
    (λ e. g (above (greatest x y z) e))
  where
    at_most : (t : ℤ) → int_le t (pos 0) ≡ true → t ≤ℤ pos 0
    at_most t e = omega (arith, ints)

    above : (t : ℤ) → int_le t (pos 0) ≡ false → pos 0 <ℤ t
    above t e = omega (arith, ints)

-- ---- the greatest of three

max_rises : (a b c d : ℤ) (r : ℕ) → a ≤ℤ (c +ℤ pos r) → b ≤ℤ (d +ℤ pos r) → int_max a b ≤ℤ (int_max c d +ℤ pos r)
max_rises a b c d r h k = omega (arith, ints, clamps)

up_to : (e f : ℤ) (d r : ℕ) → e ≤ℤ (f +ℤ pos d) → d ≤ r → e ≤ℤ (f +ℤ pos r)
up_to e f d r h k = omega (arith, ints)

below_greatest : (x y z : ℤ) → (x ≤ℤ greatest x y z) × (y ≤ℤ greatest x y z) × (z ≤ℤ greatest x y z)
below_greatest x y z = (omega (arith, ints, clamps), omega (arith, ints, clamps), omega (arith, ints, clamps))

sunk : (e t : ℤ) → e ≤ℤ t → t ≤ℤ pos 0 → (e +ℤ pos (unsigned_abs t)) ≤ℤ pos 0
sunk e t h k = omega (arith, ints)

-- ---- the law

-- the sum that a block's distance outside is the root of
abbrev sum : ℤ → ℤ → ℤ → ℕ
sum x y z = positive_square x + positive_square y + positive_square z

sum_is : (x y z : ℤ) → sum x y z ≡ squares (out x) (out y) (out z)
sum_is x y z = omega (arith, out_square x, out_square y, out_square z)

-- from excesses x' y' z' to x y z, which are greater by at most d₁, d₂ and d₃
module _ (x y z x' y' z' : ℤ) (d₁ d₂ d₃ r : ℕ) (hd : squares d₁ d₂ d₃ ≤ r * r) (h₁ : x ≤ℤ (x' +ℤ pos d₁)) (h₂ : y ≤ℤ (y' +ℤ pos d₂)) (h₃ : z ≤ℤ (z' +ℤ pos d₃)) where
  stayed_in : greatest x y z ≤ℤ (greatest x' y' z' +ℤ pos r)
  stayed_in =
      max_rises (int_max x y) z (int_max x' y') z' r
      (max_rises x y x' y' r (up_to x x' d₁ r h₁ (square_le_back d₁ r (omega arith))) (up_to y y' d₂ r h₂ (square_le_back d₂ r (omega arith))))
      (up_to z z' d₃ r h₃ (square_le_back d₃ r (omega arith)))

  stayed_out : root (sum x y z) ≤ root (sum x' y' z') + r
  stayed_out =
      root_triangle d₁ d₂ d₃ (out x') (out y') (out z') (out x) (out y) (out z) r (sum x' y' z') (sum x y z) hd
      (out_rises x x' d₁ h₁)
      (out_rises y y' d₂ h₂)
      (out_rises z z' d₃ h₃)
      (omega (arith, sum_is x' y' z'))
      (omega (arith, sum_is x y z))

  came_out : greatest x' y' z' ≤ℤ pos 0 → pos 0 <ℤ greatest x y z → root (sum x y z) + unsigned_abs (greatest x' y' z') ≤ r
  came_out deep some =
      let t = greatest x' y' z' in
      let a = unsigned_abs t in
      let below = below_greatest x' y' z' in
      emerged (out x) (out y) (out z) a d₁ d₂ d₃ r (root (sum x y z))
      (out_emerges x x' a d₁ h₁ (sunk x' t below.0 deep))
      (out_emerges y y' a d₂ h₂ (sunk y' t below.1 deep))
      (out_emerges z z' a d₃ h₃ (sunk z' t below.2 deep))
      hd
      (omega (arith, root_is (sum x y z), sum_is x y z))
      (out_some x y z some)

  rises : box_distance x y z ≤ℤ (box_distance x' y' z' +ℤ pos r)
  rises =
      by_box (λ b. b ≤ℤ (box_distance x' y' z' +ℤ pos r)) x y z
      (λ within. by_box (λ b. greatest x y z ≤ℤ (b +ℤ pos r)) x' y' z' (λ _. stayed_in) (λ _. gone_in (greatest x y z) (root (sum x' y' z')) r within))
      (λ beyond. by_box (λ b. pos (root (sum x y z)) ≤ℤ (b +ℤ pos r)) x' y' z' (λ deep. climbed (root (sum x y z)) (greatest x' y' z') r deep (came_out deep beyond)) (λ _. above (root (sum x y z)) (root (sum x' y' z')) r stayed_out))
    where
      gone_in : (t : ℤ) (n r : ℕ) → t ≤ℤ pos 0 → t ≤ℤ (pos n +ℤ pos r)
      gone_in t n r h = omega (arith, ints)

      climbed : (n : ℕ) (t : ℤ) (r : ℕ) → t ≤ℤ pos 0 → n + unsigned_abs t ≤ r → pos n ≤ℤ (t +ℤ pos r)
      climbed n t r h k = omega (arith, ints)

      above : (m n r : ℕ) → m ≤ n + r → pos m ≤ℤ (pos n +ℤ pos r)
      above m n r h = omega (arith, ints)

-- an excess changes by at most the way along its axis
excess_rises : (a b c : ℤ) (h : ℕ) → excess a c h ≤ℤ (excess b c h +ℤ pos (unsigned_abs (a -ℤ b)))
excess_rises a b c h = omega (arith, ints)

excess_falls : (a b c : ℤ) (h : ℕ) → excess b c h ≤ℤ (excess a c h +ℤ pos (unsigned_abs (a -ℤ b)))
excess_falls a b c h = omega (arith, ints)

-- a block before its radius is taken off
abbrev pub sharp : Block → Pt → ℤ
sharp s p =
    let c = s.centre in
    box_distance (excess p.x c.x s.half_x) (excess p.y c.y s.half_y) (excess p.z c.z s.half_z)

both_ways : (d e : ℤ) (r : ℕ) → d ≤ℤ (e +ℤ pos r) → e ≤ℤ (d +ℤ pos r) → unsigned_abs (d -ℤ e) ≤ r
both_ways d e r h k = omega (arith, ints)

pub near_sharp : (s : Block) → DistanceLaw (sharp s)
near_sharp s p q r i j h =
    let c = s.centre in
    both_ways (sharp s p) (sharp s q) r
    (rises _ _ _ _ _ _ _ _ _ r h (excess_rises p.x q.x c.x s.half_x) (excess_rises p.y q.y c.y s.half_y) (excess_rises p.z q.z c.z s.half_z))
    (rises _ _ _ _ _ _ _ _ _ r h (excess_falls p.x q.x c.x s.half_x) (excess_falls p.y q.y c.y s.half_y) (excess_falls p.z q.z c.z s.half_z))

-- ---- the range

excess_reach : (a c : ℤ) (h : ℕ) → InRange a → InRange c → h ≤ 8192 → unsigned_abs (excess a c h) ≤ 16383
excess_reach a c h i k l = omega (arith, ints)

box_roomy : (x y z : ℤ) → unsigned_abs x ≤ 16383 → unsigned_abs y ≤ 16383 → unsigned_abs z ≤ 16383 → Roomy (box_distance x y z)
box_roomy x y z h k l =
    by_box Roomy x y z
    (λ within. omega (arith, ints, clamps))
    (λ _. roomy_root (root (sum x y z)) (root_roomy (out x) (out y) (out z) (sum x y z) (out_small x 16383 h) (out_small y 16383 k) (out_small z 16383 l) (omega (arith, sum_is x y z))))

pub roomy_sharp : (s : Block) (p : Pt) → InSpace p → Roomy (sharp s p)
roomy_sharp s p i =
    let c = s.centre in
    box_roomy _ _ _
    (excess_reach p.x c.x s.half_x i.x_in c.x_in s.half_x_in)
    (excess_reach p.y c.y s.half_y i.y_in c.y_in s.half_y_in)
    (excess_reach p.z c.z s.half_z i.z_in c.z_in s.half_z_in)
