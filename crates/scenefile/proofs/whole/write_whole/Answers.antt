use Rattle.std.proofs.Common.{◌≡◌, ◌<◌, ◌≤◌, false, length, get_or, take, ap, ◌∙◌, subst, arith, take_all}
use Rattle.tree.specs.Rows.{node_entry, whole_entries}
use Rattle.tree.specs.declared.node.Node.{Node}
use Rattle.tree.specs.declared.node.NodeKind.TheVariants.{Solid}
use Rattle.scenefile.proofs.Entries.{entries_more, length_whole}
use Rattle.scenefile.proofs.Readings.{drop_set}
use Rattle.scenefile.proofs.whole.write_whole.Goals as goal

pub loop-i-preserved : goal.loop-i-preserved
loop-i-preserved c =
    let nodes = c.args.nodes.now in
    let i = c.loop-i.i in
    let list = c.loop-i.list in
    let d : Node = record { kind = Solid; turned = false; number = 0 } in
    let within : i < length list = omega (arith, c.loop-i.auto.list, c.loop-i-test.true, c.requires) in (
      entries_more nodes list i d c.entry_of.result c.loop-i-test.true within
          (c.entry_of.ensures ∙ ap (λ b. node_entry b (get_or nodes i d)) c.cut_after.ensures)
          c.loop-i.invariant.0,
      drop_set list i (length nodes) c.entry_of.result c.loop-i-test.true ∙ c.loop-i.invariant.1,
    )

pub returns : goal.returns
returns c =
    let nodes = c.args.nodes.now in
    let done : c.loop-i.i ≡ length nodes = omega (arith, c.loop-i-test.false, c.loop-i.auto.i-end) in
    let short : length (whole_entries nodes) ≤ length nodes = omega (arith, length_whole nodes) in
    record {
      front = (subst (λ k. take k c.loop-i.list ≡ take k (whole_entries nodes)) done c.loop-i.invariant.0) ∙ take_all (length nodes) (whole_entries nodes) short;
      rest = c.loop-i.invariant.1;
    }
