-- Marches, step by step. Assumes nothing.
use Rattle.std.specs.Prelude.{◌≡◌, ℕ, suc, ◌<◌, ◌≤◌, ℤ}
use Rattle.space.specs.Pt.{Pt}
use Rattle.march.specs.Ends.{Above, Ends}
use Rattle.march.specs.Kept.{Kept}
use Rattle.march.specs.Motion.{route}
use Rattle.march.specs.Route.{Route, last}
use Rattle.march.specs.State.{State, moving, ended}
use Rattle.march.specs.Step.{Stepped}
use Rattle.march.specs.declared.motion.Motion.{Motion}
use Rattle.march.specs.declared.gauge.Gauge.{Ghosts as Gauge}

-- From its beginning with gauge g, k steps take a march along r to s and leave gauge h. Before each step the gauge may
-- have become another, as `between` allows.
pub data Marched {G : Type 0} (K : Gauge G) (between : G → G → Type 0) (r : Route) (g : G) : ℕ → State → G → Type 0 where
  begun : Marched K between r g 0 (moving r 0) g
  stepped : {k i : ℕ} {h h' h'' : G} {s : State} → Marched K between r g k (moving r i) h → between h h' → Stepped K r i h' h'' s → Marched K between r g (suc k) s h''

-- a whole march: nothing else happens to the gauge, and it ends within N + 1 steps
pub record Whole {G : Type 0} (K : Gauge G) (r : Route) (g : G) (s : State) (h : G) : Type 0 where
  pub steps : ℕ
  pub few : steps ≤ suc (last r)
  pub chain : Marched K (λ before after. after ≡ before) r g steps s h

-- After k steps a march that is on its way is within N, and every set point that it left behind is above the margin;
-- k is at most i, so a march at its end took at most N + 1 steps. It ended as the distances say.
pub record OnTheWay (d : Pt → ℤ) (r : Route) (k i : ℕ) : Type 0 where
  pub within : i ≤ last r
  pub few : k ≤ i
  pub passed : (j : ℕ) → j < i → Above d r j

abbrev pub Certain : (Pt → ℤ) → Route → ℕ → State → Type 0
Certain d r k (moving r' i) = (r' ≡ r) × OnTheWay d r k i
Certain d r k (ended o) = (k ≤ suc (last r)) × Ends d r o

-- A march stepped by hand: between two steps the gauge may become any gauge that holds what it must and means the
-- same, by whatever calls. It goes on as the distances say all the same.
abbrev pub ByHandLaw : {G : Type 0} → Gauge G → Type 0
ByHandLaw {G} K =
    (m : Motion) (g h : G) (k : ℕ) (s : State) → K.holds g → Marched K (Kept K.holds K.means) (route m) g k s h
    → Kept K.holds K.means g h × Certain (K.means g) (route m) k s
