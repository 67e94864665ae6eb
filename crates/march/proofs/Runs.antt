-- What is certain of a march after any number of steps. Assumes nothing.
use Rattle.std.proofs.Common.{◌≡◌, ℕ, suc, sym, refl, ◌∙◌, subst, zero-le, arith}
use Rattle.setpoints.proofs.SetPoints.{set_points_law}
use Rattle.space.specs.Pt.{Pt}
use Rattle.march.specs.Kept.{Kept}
use Rattle.march.specs.Laws.{GaugeLaws}
use Rattle.march.specs.Motion.{route}
use Rattle.march.specs.Route.{point_at}
use Rattle.march.specs.Run.{Marched, begun, stepped, Certain, ByHandLaw}
use Rattle.march.specs.State.{State, moving, moving_state}
use Rattle.march.specs.Step.{Stepped}
use Rattle.march.specs.Tells.{Tells}
use Rattle.march.specs.declared.gauge.Gauge.{Ghosts as Gauge}
use Rattle.march.specs.declared.motion.Motion.{Motion}
use Rattle.march.specs.declared.moving.Moving.{Moving}
use Rattle.march.proofs.Points.{in_space}
use Rattle.march.proofs.Strides.{after}
use Rattle.march.proofs.Told.{told}

-- a kind of gauge under the laws
module _ {G : Type 0} (K : Gauge G) (law : GaugeLaws K.holds K.means K.reads) where
  -- changes between steps that keep what the gauge holds and means
  module _ (between : G → G → Type 0) (changes : (g h : G) → K.holds g → between g h → Kept K.holds K.means g h) (m : Motion) (g : G) (start : K.holds g) where
    pub certain : {k : ℕ} {s : State} {h : G} → Marched K between (route m) g k s h → Kept K.holds K.means g h × Certain (K.means g) (route m) k s
    certain begun = (record { holding = start; meaning = λ p. refl }, (refl, record { within = zero-le; few = zero-le; passed = λ j lt. absurd (let f : ⊥ = omega arith in f) }))
    certain (stepped {k} {i} {h} {h'} {h''} {s} before change step) =
        let so_far = certain before in
        let way = so_far.1.1 in
        let set = set_points_law (route m).from (route m).to (in_space m.from) (in_space m.to) in
        let p = point_at (route m) i in
        let p_in = set.inside i way.within in
        let changed = changes h h' so_far.0.holding change in
        let holding = changed.holding in
        let reading = step.valued.reading in
        let took = step.valued.took in
        let meaning : (q : Pt) → K.means h' q ≡ K.means g q = λ q. changed.meaning q ∙ so_far.0.meaning q in
        let kept = law.kept h' h'' p reading p_in holding took in
        let tale = subst (Tells reading) (meaning p) (law.tells h' h'' p reading p_in holding took) in
        let value = told m.margin reading (K.means h'' p) (K.means g p) step.value tale (kept.meaning p ∙ meaning p) step.valued.by in (
          record { holding = kept.holding; meaning = λ q. kept.meaning q ∙ meaning q },
          subst (Certain (K.means g) (route m) _) (sym step.so) (after (K.means g) (route m) (law.near g start) set k i step.value way value),
        )

  pub by_hand : ByHandLaw K
  by_hand m g h k s start run = certain (Kept K.holds K.means) (λ _ _ _ kept. kept) m g start run

  -- a march with nothing between its steps
  unchanged : (g h : G) → K.holds g → h ≡ g → Kept K.holds K.means g h
  unchanged g h start e = subst (Kept K.holds K.means g) (sym e) (record { holding = start; meaning = λ p. refl })

  module _ (m : Motion) (g : G) (start : K.holds g) where
    abbrev pub Alone : ℕ → State → G → Type 0
    Alone k s h = Marched K (λ before after. after ≡ before) (route m) g k s h

    pub alone : {k : ℕ} {s : State} {h : G} → Alone k s h → Kept K.holds K.means g h × Certain (K.means g) (route m) k s
    alone run = certain (λ before after. after ≡ before) unchanged m g start run

    pub one_more : (k : ℕ) (mv : Moving) (h h'' : G) (s : State) → Alone k (moving_state mv) h → Stepped K (route mv.motion) mv.number h h'' s → Alone (suc k) s h''
    one_more k mv h h'' s run step =
        let same = (alone run).1.0 in
        stepped (subst (λ r. Alone k (moving r mv.number) h) same run) refl (subst (λ r. Stepped K r mv.number h h'' s) same step)
