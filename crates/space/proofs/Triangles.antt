-- The triangle inequality, over whole numbers. Assumes nothing.
use Rattle.std.proofs.Common.{◌≡◌, ℕ, suc, ◌+◌, ◌-◌, ◌*◌, ◌<◌, ◌≤◌, subst, ⊎_elim, suc-mul, mul_comm, add-mul, mul-le-mul, mul-le-mul_left, mul-suc, mul-add, arith}
use native.Mathlib.Nat.{mul-mul-mul_comm, le_of_mul-le-mul_left}
use Rattle.std.proofs.lemmas.Bool.{cases_lt}
use Rattle.space.specs.Root.{root}
use Rattle.space.proofs.Roots.{root_is, square_le, square_lt_back}
use Rattle.space.proofs.RootOrder.{root_below}

-- a sum of three squares
abbrev pub squares : ℕ → ℕ → ℕ → ℕ
squares a b c = a * a + b * b + c * c

pub square_le_back : (a b : ℕ) → a * a ≤ b * b → a ≤ b
square_le_back a b h =
    let lt = square_lt_back a (suc b) (omega (arith, suc-mul b (suc b), mul-suc b b)) in
    omega arith

-- the square of a sum
pub expanded : (a b : ℕ) → (a + b) * (a + b) ≡ a * a + (a * b + a * b) + b * b
expanded a b = omega (arith, add-mul a b (a + b), mul-add a a b, mul-add b a b, mul_comm b a)

-- twice a product is at most the two squares
twice_by : (u k : ℕ) → u * (u + k) + u * (u + k) ≤ u * u + (u + k) * (u + k)
twice_by u k = omega (arith, mul-add u u k, expanded u k)

twice_le : (u v : ℕ) → u ≤ v → u * v + u * v ≤ u * u + v * v
twice_le u v h =
    let e : u + (v - u) ≡ v = omega arith in
    subst (λ w. u * w + u * w ≤ u * u + w * w) e (twice_by u (v - u))

twice : (u v : ℕ) → u * v + u * v ≤ u * u + v * v
twice u v =
    ⊎_elim
    (λ lt. twice_le u v (omega arith))
    (λ le. omega (arith, twice_le v u le, mul_comm u v))
    (cases_lt u v)

-- the inequality of Cauchy and Schwarz
module _ (a₁ a₂ a₃ b₁ b₂ b₃ r m : ℕ) (ha : squares a₁ a₂ a₃ ≤ r * r) (hb : squares b₁ b₂ b₃ ≤ m * m) where
  one_axis : (a b : ℕ) → m * r * (a * b) + m * r * (a * b) ≤ m * m * (a * a) + r * r * (b * b)
  one_axis a b = omega (arith, twice (m * a) (r * b), mul-mul-mul_comm m a r b, mul-mul-mul_comm m a m a, mul-mul-mul_comm r b r b)

  scaled : m * r * (a₁ * b₁ + a₂ * b₂ + a₃ * b₃) ≤ m * r * (m * r)
  scaled =
      let n = m * r in
      let below_a = mul-le-mul_left (m * m) ha in
      let below_b = mul-le-mul_left (r * r) hb in
      omega (
        arith,
        one_axis a₁ b₁,
        one_axis a₂ b₂,
        one_axis a₃ b₃,
        mul-add n (a₁ * b₁ + a₂ * b₂) (a₃ * b₃),
        mul-add n (a₁ * b₁) (a₂ * b₂),
        mul-add (m * m) (a₁ * a₁ + a₂ * a₂) (a₃ * a₃),
        mul-add (m * m) (a₁ * a₁) (a₂ * a₂),
        mul-add (r * r) (b₁ * b₁ + b₂ * b₂) (b₃ * b₃),
        mul-add (r * r) (b₁ * b₁) (b₂ * b₂),
        mul-mul-mul_comm m r m r,
        mul_comm (r * r) (m * m),
      )

  none : m * r ≡ 0 → a₁ * b₁ + a₂ * b₂ + a₃ * b₃ ≤ m * r
  none e =
      let x = square_le_back a₁ r (omega arith) in
      let y = square_le_back a₂ r (omega arith) in
      let z = square_le_back a₃ r (omega arith) in
      let u = square_le_back b₁ m (omega arith) in
      let v = square_le_back b₂ m (omega arith) in
      let w = square_le_back b₃ m (omega arith) in
      omega (arith, mul-le-mul x u, mul-le-mul y v, mul-le-mul z w, mul_comm m r)

  pub cauchy : a₁ * b₁ + a₂ * b₂ + a₃ * b₃ ≤ m * r
  cauchy = ⊎_elim (λ pos. le_of_mul-le-mul_left scaled pos) (λ le. none (omega arith)) (cases_lt 0 (m * r))

-- the sums of two triples
module _ (a₁ a₂ a₃ b₁ b₂ b₃ r m : ℕ) (ha : squares a₁ a₂ a₃ ≤ r * r) (hb : squares b₁ b₂ b₃ < m * m) where
  pub triangle : squares (a₁ + b₁) (a₂ + b₂) (a₃ + b₃) < (r + m) * (r + m)
  triangle =
      omega (
        arith,
        expanded a₁ b₁,
        expanded a₂ b₂,
        expanded a₃ b₃,
        expanded r m,
        mul_comm m r,
        cauchy a₁ a₂ a₃ b₁ b₂ b₃ r m ha (omega arith),
      )

-- a point c at most a off a point b has a root of at most r more
pub root_triangle : (a₁ a₂ a₃ b₁ b₂ b₃ c₁ c₂ c₃ r m n : ℕ)
    → squares a₁ a₂ a₃ ≤ r * r
    → c₁ ≤ a₁ + b₁ → c₂ ≤ a₂ + b₂ → c₃ ≤ a₃ + b₃
    → squares b₁ b₂ b₃ ≤ m → n ≤ squares c₁ c₂ c₃
    → root n ≤ root m + r
root_triangle a₁ a₂ a₃ b₁ b₂ b₃ c₁ c₂ c₃ r m n ha h₁ h₂ h₃ hm hn =
    let s = suc (root m) in
    let hb : squares b₁ b₂ b₃ < s * s = omega (arith, root_is m) in
    let lt = root_below n (r + s) (omega (arith, triangle a₁ a₂ a₃ b₁ b₂ b₃ r s ha hb, square_le h₁, square_le h₂, square_le h₃)) in
    omega arith
