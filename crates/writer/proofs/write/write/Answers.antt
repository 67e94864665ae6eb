use Rattle.std.proofs.Common.{◌++◌, length, drop, ap, ◌∙◌, ap₂}
use Rattle.records.specs.Format.{format}
use Rattle.roundtrip.specs.Bytes.{header_bytes}
use Rattle.roundtrip.proofs.Back.{written_then_read}
use Rattle.writer.proofs.Again.{storable}
use Rattle.writer.proofs.Files.{too_short, answer, laid_file}
use Rattle.writer.proofs.write.write.Goals as goal

pub returns-then-out-end : goal.returns-then-out-end
returns-then-out-end g c =
    let S = g.M.Solid.Record in
    let J = g.M.Joint.Record in
    let f = format g.M.Make.NUMBER S J in
    let scene = c.args.scene.now in
    let short = too_short f J.LENGTH g.met.M.Solid.Record.sized g.met.M.Joint.Record.sized g.met.M.Make.joint_length scene.solids.now scene.joints.now scene.nodes.now c.LENGTH-size.result c.LENGTH-size.ensures c.args.out.now c.if-out-end.true in
    record {
      answer = short.0;
      after = short.1;
      again = λ rooms room. written_then_read S J g.met.M.Solid.Record.sized (λ x. g.met.M.Joint.Record.sized x ∙ g.met.M.Make.joint_length) g.met.M.Solid.Record.apart g.met.M.Joint.Record.apart g.M.Make.NUMBER rooms scene.solids.now scene.joints.now scene.nodes.now (storable scene.solids.now scene.joints.now scene.nodes.now scene.few_solids scene.few_joints scene.few_nodes scene.named scene.ordered scene.used) room;
    }

pub returns : goal.returns
returns g c =
    let S = g.M.Solid.Record in
    let J = g.M.Joint.Record in
    let f = format g.M.Make.NUMBER S J in
    let scene = c.args.scene.now in
    record {
      answer = answer f J.LENGTH g.met.M.Solid.Record.sized g.met.M.Joint.Record.sized g.met.M.Make.joint_length scene.solids.now scene.joints.now scene.nodes.now c.LENGTH-size.result c.LENGTH-size.ensures c.args.out.now c.if-out-end.false;
      after = laid_file f J.LENGTH g.met.M.Solid.Record.sized g.met.M.Joint.Record.sized g.met.M.Make.joint_length scene.solids.now scene.joints.now scene.nodes.now c.LENGTH-size.result c.LENGTH-size.ensures c.args.out.now c.if-out-end.false c.header-head.result _ c.write_rows.new.out c.write_rows-2.new.out c.write_rows-3.new.out
          (c.header-head.ensures ∙ ap₂ (λ m z. header_bytes m z (length scene.solids.now) (length scene.joints.now) (length scene.nodes.now)) c.NUMBER.ensures c.LENGTH-size.ensures)
          (ap (λ h. h ++ drop 20 c.args.out.now) c.copy_from_slice.ensures.after) c.write_rows.ensures c.write_rows-2.ensures c.write_rows-3.ensures;
      again = λ rooms room. written_then_read S J g.met.M.Solid.Record.sized (λ x. g.met.M.Joint.Record.sized x ∙ g.met.M.Make.joint_length) g.met.M.Solid.Record.apart g.met.M.Joint.Record.apart g.M.Make.NUMBER rooms scene.solids.now scene.joints.now scene.nodes.now (storable scene.solids.now scene.joints.now scene.nodes.now scene.few_solids scene.few_joints scene.few_nodes scene.named scene.ordered scene.used) room;
    }
