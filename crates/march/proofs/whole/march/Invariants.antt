use Rattle.std.proofs.Common.{◌≡◌, ℕ, ◌-◌}
use Rattle.march.specs.Motion.{route}
use Rattle.march.specs.Route.{last}
use Rattle.march.specs.Run.{Marched}
use Rattle.march.specs.State.{moving_state}
use Rattle.march.proofs.whole.march.Given as goal

abbrev pub invariant-loop-next : goal.invariant-loop-next
invariant-loop-next g l =
    (k : ℕ) × Marched g.G.Gauge (λ before after. after ≡ before) (route l.initial.moving.motion) l.initial.gauge k (moving_state l.moving) l.gauge

abbrev pub decreases-loop-next : goal.decreases-loop-next
decreases-loop-next g l = last (route l.moving.motion) - l.moving.number
