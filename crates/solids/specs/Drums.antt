-- The laws of the distances across and along an axis. Assumes nothing.
use Rattle.std.specs.Prelude.{ℕ, ◌+◌, ◌*◌, ◌≤◌, ℤ, pos, ◌-ℤ◌, unsigned_abs}
use Rattle.std.proofs.Common.{arith}
use Rattle.space.specs.Laws.{DistanceLaw}
use Rattle.space.specs.Pt.{Pt, InSpace}
use Rattle.space.specs.Root.{root}
use Rattle.space.proofs.Triangles.{squares, square_le_back}
use Rattle.solids.specs.Drum.{along, across²}
use Rattle.solids.specs.declared.catalogue.Axis.{Axis}
use Rattle.solids.specs.declared.catalogue.Axis.TheVariants.{X, Y, Z}
use Rattle.solids.specs.Bounds.{differ}
use Rattle.solids.specs.Keeping.{Roomy, between, ways, root_near, root_roomy, roomy_root}

-- two of the three axes
pair_near : (a b c d e f : ℤ) (r : ℕ) → unsigned_abs (a -ℤ b) * unsigned_abs (a -ℤ b) + unsigned_abs (d -ℤ e) * unsigned_abs (d -ℤ e) ≤ r * r → unsigned_abs (pos (root (unsigned_abs (a -ℤ c) * unsigned_abs (a -ℤ c) + unsigned_abs (d -ℤ f) * unsigned_abs (d -ℤ f))) -ℤ pos (root (unsigned_abs (b -ℤ c) * unsigned_abs (b -ℤ c) + unsigned_abs (e -ℤ f) * unsigned_abs (e -ℤ f)))) ≤ r
pair_near a b c d e f r h =
    root_near (unsigned_abs (a -ℤ b)) (unsigned_abs (d -ℤ e)) 0 (unsigned_abs (a -ℤ c)) (unsigned_abs (d -ℤ f)) 0 (unsigned_abs (b -ℤ c)) (unsigned_abs (e -ℤ f)) 0 _ _ r (omega arith)
    (ways a b c)
    (ways d e f)
    (omega arith, omega arith)
    (omega arith)
    (omega arith)

pub near_across : (a : Axis) (c : Pt) → DistanceLaw (λ p. pos (root (across² a p c)))
near_across X c p q r i j h = pair_near p.y q.y c.y p.z q.z c.z r (omega arith)
near_across Y c p q r i j h = pair_near p.x q.x c.x p.z q.z c.z r (omega arith)
near_across Z c p q r i j h = pair_near p.x q.x c.x p.y q.y c.y r (omega arith)

-- one axis
single_near : (a b c : ℤ) (r : ℕ) → unsigned_abs (a -ℤ b) * unsigned_abs (a -ℤ b) ≤ r * r → unsigned_abs (pos (unsigned_abs (a -ℤ c)) -ℤ pos (unsigned_abs (b -ℤ c))) ≤ r
single_near a b c r h =
    let w = ways a b c in
    let k = square_le_back (unsigned_abs (a -ℤ b)) r h in
    between (unsigned_abs (a -ℤ c)) (unsigned_abs (b -ℤ c)) r (omega arith) (omega arith)

pub near_along : (a : Axis) (c : Pt) → DistanceLaw (λ p. pos (along a p c))
near_along X c p q r i j h = single_near p.x q.x c.x r (omega arith)
near_along Y c p q r i j h = single_near p.y q.y c.y r (omega arith)
near_along Z c p q r i j h = single_near p.z q.z c.z r (omega arith)

pub roomy_across : (a : Axis) (c : Pt) → InSpace c → (p : Pt) → InSpace p → Roomy (pos (root (across² a p c)))
roomy_across a c k p i =
    let x = differ p.x c.x i.x_in k.x_in in
    let y = differ p.y c.y i.y_in k.y_in in
    let z = differ p.z c.z i.z_in k.z_in in
    roomy_root (root (across² a p c)) (root_roomy _ _ _ (across² a p c) x y z (within a))
  where
    within : (a : Axis) → across² a p c ≤ squares (unsigned_abs (p.x -ℤ c.x)) (unsigned_abs (p.y -ℤ c.y)) (unsigned_abs (p.z -ℤ c.z))
    within X = omega arith
    within Y = omega arith
    within Z = omega arith

pub roomy_along : (a : Axis) (c : Pt) → InSpace c → (p : Pt) → InSpace p → Roomy (pos (along a p c))
roomy_along X c k p i = let h = differ p.x c.x i.x_in k.x_in in roomy_root (along X p c) (omega arith)
roomy_along Y c k p i = let h = differ p.y c.y i.y_in k.y_in in roomy_root (along Y p c) (omega arith)
roomy_along Z c k p i = let h = differ p.z c.z i.z_in k.z_in in roomy_root (along Z p c) (omega arith)
