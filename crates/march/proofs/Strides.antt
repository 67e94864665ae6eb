-- Where a step takes a march, and what it leaves behind. Assumes nothing.
use Rattle.std.proofs.Common.{◌≡◌, ℕ, suc, ◌+◌, ◌-◌, ◌*◌, ◌/◌, ◌<◌, ◌≤◌, Bool, true, false, cond, leb, ℤ, pos, ◌-ℤ◌, nat_abs, ◌≤ℤ◌, ◌<ℤ◌, Some, None, refl, subst, ⊎_elim, div-mul-le_self, arith}
use lib.Signed.{le_z}
use Rattle.setpoints.specs.Law.{SetPoints}
use Rattle.space.specs.Laws.{DistanceLaw}
use Rattle.space.specs.Pt.{Pt}
use Rattle.std.proofs.lemmas.Int.{ints}
use Rattle.std.proofs.lemmas.Bool.{cases_lt, leb-true, leb-false}
use Rattle.march.specs.Ends.{Above}
use Rattle.march.specs.Route.{Route, last, point_at}
use Rattle.march.specs.Run.{OnTheWay, Certain}
use Rattle.march.specs.State.{moving, ended}
use Rattle.march.specs.Step.{stride, state_after}
use Rattle.march.proofs.Told.{Told, not_above, above}

-- twice what is within a stride is below what the value is above the margin by
short : (t x : ℕ) → t < 1 + (x - 1) / 2 → 0 < x → 2 * t < x
short t x h some = omega (arith, div-mul-le_self (x - 1) 2)

-- where a march on its way stands
pub same_place : {r r' : Route} {i j : ℕ} → moving r i ≡ moving r' j → (r ≡ r') × (i ≡ j)
same_place e = (cc, cc)

module _ (d : Pt → ℤ) (r : Route) (law : DistanceLaw d) (set : SetPoints r.from r.to) where
  -- a set point within a stride of i
  passed : (i j : ℕ) (v : ℤ) → pos r.margin <ℤ v → v ≤ℤ d (point_at r i) → i ≤ j → j < i + stride r.margin v → j ≤ last r → Above d r j
  passed i j v over under from before within =
      let t = j - i in
      let there : i + t ≡ j = omega arith in
      let i_in = set.inside i (omega arith) in
      let j_in = set.inside (i + t) (omega arith) in
      let near = law (point_at r i) (point_at r (i + t)) (2 * t) i_in j_in (set.near i t (omega arith)) in
      let few = short t (nat_abs (v -ℤ pos r.margin)) (omega arith) (omega (arith, ints)) in
      subst (Above d r) there (stays r.margin t v (d (point_at r i)) (d (point_at r (i + t))) over under near few)
    where
      stays : (m t : ℕ) (v x y : ℤ) → pos m <ℤ v → v ≤ℤ x → nat_abs (x -ℤ y) ≤ 2 * t → 2 * t < nat_abs (v -ℤ pos m) → pos m <ℤ y
      stays m t v x y h k n f = omega (arith, ints)

  module _ (k i : ℕ) (v : ℤ) (way : OnTheWay d r k i) (told : Told r.margin v (d (point_at r i))) where
    -- every set point before the next, within N
    behind : (j : ℕ) → pos r.margin <ℤ v → j < i + stride r.margin v → j ≤ last r → Above d r j
    behind j over before within =
        ⊎_elim
        (λ lt. way.passed j lt)
        (λ le. passed i j v over (told.high over) le before within)
        (cases_lt j i)

    farther : pos r.margin <ℤ v → (b : Bool) → leb (i + stride r.margin v) (last r) ≡ b → Certain d r (suc k) (cond b (moving r (i + stride r.margin v)) (ended None))
    farther over true e =
        let fits = leb-true (i + stride r.margin v) (last r) e in
        (refl, record { within = fits; few = omega (arith, way.few); passed = λ j lt. behind j over lt (omega arith) })
    farther over false e =
        let out = leb-false (i + stride r.margin v) (last r) e in
        (omega (arith, way.few, way.within), λ j le. behind j over (omega arith) le)

    went : (b : Bool) → le_z v (pos r.margin) ≡ b → Certain d r (suc k) (cond b (ended (Some (record { number = i; distance = v }))) (cond (leb (i + stride r.margin v) (last r)) (moving r (i + stride r.margin v)) (ended None)))
    went true e =
        let low = not_above v (pos r.margin) e in
        (omega (arith, way.few, way.within), record { within = way.within; distance = told.low low; reached = low; first = way.passed })
    went false e = farther (above v (pos r.margin) e) _ refl

    pub after : Certain d r (suc k) (state_after r i v)
    after = went _ refl
