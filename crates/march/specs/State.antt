-- Where a march stands. Assumes nothing.
use Rattle.std.specs.Prelude.{ℕ, Option}
use Rattle.march.specs.Motion.{route}
use Rattle.march.specs.Route.{Route}
use Rattle.march.specs.declared.moving.Ended.{Ended}
use Rattle.march.specs.declared.moving.Moving.{Moving}
use Rattle.march.specs.declared.outcome.Met.{Met}
use Rattle.std.specs.declared.ops.ControlFlow.{ControlFlow}
use Rattle.std.specs.declared.ops.ControlFlow.TheVariants.{Continue, Break}

-- on its way at set point i, or at its end
pub data State : Type 0 where
  moving : Route → ℕ → State
  ended : Option Met → State

abbrev pub moving_state : Moving → State
moving_state m = moving (route m.motion) m.number

abbrev pub state_of : ControlFlow Ended Moving → State
state_of (Continue m) = moving_state m
state_of (Break e) = ended e.outcome
