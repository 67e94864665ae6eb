use Rattle.std.proofs.Common.{◌≡◌, ◌∙◌, refl, ℕ, ap, map, subst, inl, inr, Err}
use Rattle.std.proofs.lemmas.Result.{err_from_is_err_and}
use Rattle.records.specs.Format.{format}
use Rattle.records.specs.Node.{node_record}
use Rattle.records.specs.Put.{put}
use Rattle.roundtrip.proofs.Again.{all_again, read_has_room}
use Rattle.scenefile.specs.Checks.{Refused}
use Rattle.scenefile.specs.Load.{held, rooms_of, SceneOf}
use Rattle.space.specs.declared.refusal.Refusal.{Refusal}
use Rattle.writer.specs.Rewrite.{RewrittenByTables}
use Rattle.writer.specs.Write.{written_length}
use Rattle.writer.proofs.Outputs.{output_of}
use Rattle.writer.proofs.rewrite.rewrite.Goals as goal

pub returns-in_err-counts : goal.returns-in_err-counts
returns-in_err-counts g c =
    let f = format g.M.Make.NUMBER g.M.Solid.Record g.M.Joint.Record in
    let was = held c.args.tables.now in
    let is = held c.load.new.tables in
    let out = c.args.out.now in
    let r = c.from_residual.result in
    let e = c.in_err-counts.field-0.0 in
    let outcome = c.in_err-counts.ensures.outcome in
    let p = err_from_is_err_and r c.from_residual.ensures.1 in
    let answer : r ≡ Err e = p.1 ∙ ap Err p.2 in
    let whole : RewrittenByTables f c.args.bytes.now was is out out r =
    inr (record { refusal = e; refused = outcome.0; answer = answer; tables = outcome.1; after = refl }) in
    record {
      output = output_of f c.args.bytes.now was is out out r whole;
      tables = whole;
      same = c.in_err-counts.ensures.same;
    }

pub returns : goal.returns
returns g c =
    let f = format g.M.Make.NUMBER g.M.Solid.Record g.M.Joint.Record in
    let n = c.in_ok-counts.counts in
    let loaded = c.in_ok-counts.ensures.outcome in
    let was = held c.args.tables.now in
    let is = held c.load.new.tables in
    let bytes = c.args.bytes.now in
    let out = c.args.out.now in
    let scene = c.scene_of-scene.result in
    let fronts = c.scene_of-scene.ensures in
    let small = λ (i : ℕ). (c.type_inv.bytes i).fits in
    let of : SceneOf f bytes (rooms_of was) scene.solids.now scene.joints.now scene.nodes.now = record {
      no_fault = loaded.no_fault;
      solids_are = ap (map f.solid) fronts.solids ∙ loaded.solids_are;
      joints_are = ap (map f.joint) fronts.joints ∙ loaded.joints_are;
      nodes_are = ap (map node_record) fronts.nodes ∙ loaded.nodes_are.nodes_are;
    } in
    let same = all_again f bytes (rooms_of was) scene.solids.now scene.joints.now scene.nodes.now small of in
    let room = read_has_room f bytes (rooms_of was) scene.solids.now scene.joints.now scene.nodes.now small of in
    let whole : RewrittenByTables f bytes was is out c.write.new.out c.write.result =
    inl (record {
      none_refuses = subst (λ b. (e : Refusal) → Refused f b (rooms_of was) e → ⊥) same (c.write.ensures.again (rooms_of was) room).accepted;
      counts = n;
      loaded = loaded;
      answer = c.write.ensures.answer ∙ ap (λ b. written_length b out) same;
      after = c.write.ensures.after ∙ ap (λ b. put b out) same;
    }) in
    record {
      output = output_of f bytes was is out c.write.new.out c.write.result whole;
      tables = whole;
      same = c.in_ok-counts.ensures.same;
    }
