use Rattle.std.proofs.Common.{◌≡◌, suc, sym, subst}
use Rattle.march.specs.Ends.{Ends}
use Rattle.march.specs.Motion.{route}
use Rattle.march.specs.Run.{Marched, begun, Whole}
use Rattle.march.specs.State.{moving, ended}
use Rattle.march.proofs.Runs.{by_hand, alone, one_more}
use Rattle.march.proofs.Strides.{same_place}
use Rattle.march.proofs.whole.march.Goals as goal

pub loop-next-init : goal.loop-next-init
loop-next-init g c =
    let b = c.begin-moving.result in
    let first = sym (same_place c.begin-moving.ensures).1 in
    let start = c.args.gauge.now in
    (0, subst (λ i. Marched g.G.Gauge (λ before after. after ≡ before) (route b.motion) start 0 (moving (route b.motion) i) start) first begun)

pub step-requires : goal.step-requires
step-requires g c =
    let K = g.G.Gauge in
    (alone K g.met.G.Gauge.laws c.begin-moving.result.motion c.args.gauge.now c.requires c.loop-next.invariant.1).0.holding

pub loop-next-preserved : goal.loop-next-preserved
loop-next-preserved g c =
    let K = g.G.Gauge in
    let inv = c.loop-next.invariant in (
      suc inv.0,
      one_more K g.met.G.Gauge.laws c.begin-moving.result.motion c.args.gauge.now c.requires inv.0 c.loop-next.moving c.loop-next.gauge c.step.new.gauge _ inv.1 c.in-Continue.ensures.stepped,
    )

pub returns-in-Break : goal.returns-in-Break
returns-in-Break g c =
    let K = g.G.Gauge in
    let inv = c.loop-next.invariant in
    let m = c.begin-moving.result.motion in
    let same = (same_place c.begin-moving.ensures).0 in
    let start = c.args.gauge.now in
    let after = c.step.new.gauge in
    let o = c.in-Break.ended.outcome in
    let run = one_more K g.met.G.Gauge.laws m start c.requires inv.0 c.loop-next.moving c.loop-next.gauge after (ended o) inv.1 c.in-Break.ensures.stepped in
    let sure = alone K g.met.G.Gauge.laws m start c.requires run in
    let whole : Whole K (route m) start (ended o) after = record { steps = suc inv.0; few = sure.1.0; chain = run } in
    record {
      ends = subst (λ r. Ends (K.means start) r o) same sure.1.1;
      kept = sure.0;
      whole = subst (λ r. Whole K r start (ended o) after) same whole;
      by_hand = by_hand K g.met.G.Gauge.laws;
    }
