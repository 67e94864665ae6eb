-- What keeps the two laws: a number taken off, the greater of two, a root. Assumes nothing.
use Rattle.std.specs.Prelude.{◌≡◌, ℕ, ◌+◌, ◌*◌, ◌≤◌, ℤ, pos, negsuc, ◌-ℤ◌, ◌≤ℤ◌, unsigned_abs, refl}
use Rattle.std.proofs.Common.{arith}
use Rattle.std.specs.Int.{int_max}
use Rattle.std.proofs.lemmas.Int.{ints, clamps}
use Rattle.space.specs.At.{at}
use Rattle.space.specs.declared.point.Point.{Point}
use Rattle.space.specs.Laws.{DistanceLaw, DistanceRange}
use Rattle.space.specs.Pt.{Pt, InSpace, apart²}
use Rattle.space.specs.Root.{root}
use Rattle.space.proofs.RootOrder.{root_below}
use Rattle.space.proofs.Roots.{square_le}
use Rattle.space.proofs.Triangles.{squares, root_triangle}
use Rattle.solids.specs.Bounds.{differ}

-- a distance before its radius is taken off: -16,384 to 28,376
abbrev pub Roomy : ℤ → Type 0
Roomy d = (negsuc 16383 ≤ℤ d) × (d ≤ℤ pos 28376)

less_near : (d e : ℤ) (k r : ℕ) → unsigned_abs (d -ℤ e) ≤ r → unsigned_abs ((d -ℤ pos k) -ℤ (e -ℤ pos k)) ≤ r
less_near d e k r h = omega (arith, ints)

pub near_less : (d : Pt → ℤ) (k : ℕ) → DistanceLaw d → DistanceLaw (λ p. d p -ℤ pos k)
near_less d k law p q r i j h = less_near (d p) (d q) k r (law p q r i j h)

less_ranged : (d : ℤ) (k : ℕ) → Roomy d → k ≤ 8192 → unsigned_abs (d -ℤ pos k) ≤ 32767
less_ranged d k h l = omega (arith, ints)

pub ranged_less : (d : Pt → ℤ) (k : ℕ) → ((p : Pt) → InSpace p → Roomy (d p)) → k ≤ 8192 → DistanceRange (λ p. d p -ℤ pos k)
ranged_less d k h l p i = less_ranged (d p) k (h p i) l

max_near : (a b c d : ℤ) (r : ℕ) → unsigned_abs (a -ℤ b) ≤ r → unsigned_abs (c -ℤ d) ≤ r → unsigned_abs (int_max a c -ℤ int_max b d) ≤ r
max_near a b c d r h k = omega (arith, ints, clamps)

pub near_max : (d e : Pt → ℤ) → DistanceLaw d → DistanceLaw e → DistanceLaw (λ p. int_max (d p) (e p))
near_max d e f g p q r i j h = max_near (d p) (d q) (e p) (e q) r (f p q r i j h) (g p q r i j h)

max_ranged : (a b : ℤ) (r : ℕ) → unsigned_abs a ≤ r → unsigned_abs b ≤ r → unsigned_abs (int_max a b) ≤ r
max_ranged a b r h k = omega (arith, ints, clamps)

pub ranged_max : (d e : Pt → ℤ) → DistanceRange d → DistanceRange e → DistanceRange (λ p. int_max (d p) (e p))
ranged_max d e f g p i = max_ranged (d p) (e p) 32767 (f p i) (g p i)

-- two numbers that differ by at most r
pub between : (m n r : ℕ) → m ≤ n + r → n ≤ m + r → unsigned_abs (pos m -ℤ pos n) ≤ r
between m n r h k = omega (arith, ints)

-- along one axis: how far two points are from a third, where they are apart from each other
pub ways : (a b c : ℤ) → (unsigned_abs (a -ℤ c) ≤ unsigned_abs (a -ℤ b) + unsigned_abs (b -ℤ c)) × (unsigned_abs (b -ℤ c) ≤ unsigned_abs (a -ℤ b) + unsigned_abs (a -ℤ c))
ways a b c = omega (arith, ints)

-- the root of a sum of squares of distances along some axes, where two points are δ apart along each
pub root_near : (δ₁ δ₂ δ₃ p₁ p₂ p₃ q₁ q₂ q₃ m n r : ℕ)
    → squares δ₁ δ₂ δ₃ ≤ r * r
    → (p₁ ≤ δ₁ + q₁) × (q₁ ≤ δ₁ + p₁)
    → (p₂ ≤ δ₂ + q₂) × (q₂ ≤ δ₂ + p₂)
    → (p₃ ≤ δ₃ + q₃) × (q₃ ≤ δ₃ + p₃)
    → m ≡ squares p₁ p₂ p₃
    → n ≡ squares q₁ q₂ q₃
    → unsigned_abs (pos (root m) -ℤ pos (root n)) ≤ r
root_near δ₁ δ₂ δ₃ p₁ p₂ p₃ q₁ q₂ q₃ m n r h x y z e f =
    between (root m) (root n) r
    (root_triangle δ₁ δ₂ δ₃ q₁ q₂ q₃ p₁ p₂ p₃ r n m h x.0 y.0 z.0 (omega arith) (omega arith))
    (root_triangle δ₁ δ₂ δ₃ p₁ p₂ p₃ q₁ q₂ q₃ r m n h x.1 y.1 z.1 (omega arith) (omega arith))

pub near_root : (c : Pt) → DistanceLaw (λ p. pos (root (apart² p c)))
near_root c p q r i j h =
    root_near _ _ _ _ _ _ _ _ _ (apart² p c) (apart² q c) r h
    (ways p.x q.x c.x)
    (ways p.y q.y c.y)
    (ways p.z q.z c.z)
    refl
    refl

-- a sum of squares of distances along three axes has a root of at most 28,376
pub root_roomy : (a b c n : ℕ) → a ≤ 16383 → b ≤ 16383 → c ≤ 16383 → n ≤ squares a b c → root n ≤ 28376
root_roomy a b c n h k l m =
    let lt = root_below n 28377 (omega (arith, square_le h, square_le k, square_le l)) in
    omega arith

pub roomy_root : (n : ℕ) → n ≤ 28376 → Roomy (pos n)
roomy_root n h = omega (arith, ints)

pub roomy_apart : (c : Pt) → InSpace c → (p : Pt) → InSpace p → Roomy (pos (root (apart² p c)))
roomy_apart c k p i =
    roomy_root (root (apart² p c)) (
    root_roomy _ _ _ (apart² p c)
    (differ p.x c.x i.x_in k.x_in)
    (differ p.y c.y i.y_in k.y_in)
    (differ p.z c.z i.z_in k.z_in)
    (omega arith)
    )

-- a `Point` is in space
pub stands : (c : Point) → InSpace (at c)
stands c = record { x_in = c.x_in; y_in = c.y_in; z_in = c.z_in }
