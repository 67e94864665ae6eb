use Rattle.std.proofs.Common.{ap, ◌∙◌, subst, w32, SFits}
use Rattle.std.proofs.lemmas.Int.{to_z-of_z}
use Rattle.march.specs.Motion.{route}
use Rattle.march.specs.Step.{Valued, state_after}
use Rattle.march.proofs.moving.Moving.step.Goals as goal

pub returns : goal.returns
returns g c =
    let m = c.args.self.motion in
    let v = c.value_at-value.result in
    let fits : SFits w32 v = record { sfits = c.value_at-value.type_inv } in
    let before = c.args.gauge.now in
    let after = c.value_at-value.new.gauge in
    record {
      stepped = record {
        value = v;
        valued = subst (λ q. Valued g.G.Gauge m.margin q before after v) c.set_point-point.ensures c.value_at-value.ensures.value;
        so = c.after.ensures ∙ ap (state_after (route m) c.args.self.number) (to_z-of_z w32 v fits);
      };
      kept = c.value_at-value.ensures.kept;
    }
