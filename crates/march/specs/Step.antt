-- One step of a march. Assumes nothing.
use Rattle.std.specs.Prelude.{◌≡◌, ℕ, ◌+◌, ◌-◌, ◌/◌, cond, ℤ, pos, Some, None, ◌-ℤ◌, int_le, nat_le, unsigned_abs}
use Rattle.space.specs.Pt.{Pt}
use Rattle.march.specs.Route.{Route, last, point_at}
use Rattle.march.specs.State.{State, moving, ended}
use Rattle.march.specs.declared.gauge.Gauge.{Ghosts as Gauge}
use Rattle.march.specs.declared.reading.Reading.{Reading}
use Rattle.march.specs.declared.reading.Reading.TheVariants.{Exact, Bound}

-- the value that a step goes by: a bound not above the margin is replaced by the sure reading
abbrev pub gone_by : ℕ → Reading → ℤ → ℤ
gone_by margin (Exact v) sure = v
gone_by margin (Bound c) sure = cond (int_le c (pos margin)) sure c

-- at a value above the margin, how far a march goes on: 1 + (v - margin - 1) / 2
abbrev pub stride : ℕ → ℤ → ℕ
stride margin v = 1 + (unsigned_abs (v -ℤ pos margin) - 1) / 2

-- at a value not above the margin a march ends met; otherwise it goes on, and past the last set point it ends clear
abbrev pub state_after : Route → ℕ → ℤ → State
state_after r i v =
    let next = i + stride r.margin v in
    cond (int_le v (pos r.margin)) (ended (Some (record { number = i; distance = v }))) (cond (nat_le next (last r)) (moving r next) (ended None))

-- v is what a gauge g gives a step at p, by a quick reading that leaves h, and a sure reading of h, which moves nothing
pub record Valued {G : Type 0} (K : Gauge G) (margin : ℕ) (p : Pt) (g h : G) (v : ℤ) : Type 0 where
  pub reading : Reading
  pub took : K.reads g p reading h
  pub by : v ≡ gone_by margin reading (K.means h p)

-- a step at set point i takes the gauge from g to h and the march to s
pub record Stepped {G : Type 0} (K : Gauge G) (r : Route) (i : ℕ) (g h : G) (s : State) : Type 0 where
  pub value : ℤ
  pub valued : Valued K r.margin (point_at r i) g h value
  pub so : s ≡ state_after r i value
