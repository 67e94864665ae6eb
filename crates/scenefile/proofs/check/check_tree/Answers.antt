use Rattle.std.proofs.Common.{◌≡◌, ◌++◌, length, take, drop, sym, ap, ◌∙◌, subst, inl, inr, length-take-le}
use Rattle.std.proofs.Math.Seq.{take-append_seam}
use Rattle.scenefile.specs.Checks.{TreeFine}
use Rattle.scenefile.proofs.Chains.{order_refused, order_pass, unused_refused, tree_fine}
use Rattle.scenefile.proofs.NodeTable.{read_refused, read_pass, read_rows}
use Rattle.scenefile.proofs.check.check_tree.Goals as goal

pub returns-in-Err : goal.returns-in-Err
returns-in-Err c =
    let file = c.args.file.now in
    inl (read_refused file.size file.bytes.now file.counts file.counted c.nodes.result.now c.nodes.ensures.value c.args.table.now c.requires c.in-Err.i c.in-Err.ensures)

pub returns-in-Some : goal.returns-in-Some
returns-in-Some c =
    let file = c.args.file.now in
    let bytes = file.bytes.now in
    let nodes = c.read_nodes.new.into in
    let read = c.in_default.ensures in
    let are = read_rows file.size bytes file.counts file.counted c.nodes.result.now c.nodes.ensures.value c.args.table.now c.requires nodes read.0 in
    inr (
      read_pass file.size bytes file.counts file.counted c.nodes.result.now c.nodes.ensures.value c.args.table.now c.requires read.2,
      inl (order_refused file.size bytes file.counts file.counted nodes are c.in-Some.i c.in-Some.ensures.value),
    )

pub returns-in-Some-find_unused : goal.returns-in-Some-find_unused
returns-in-Some-find_unused c =
    let file = c.args.file.now in
    let bytes = file.bytes.now in
    let nodes = c.read_nodes.new.into in
    let read = c.in_default.ensures in
    let unused = c.in-Some-find_unused.ensures in
    let are = read_rows file.size bytes file.counts file.counted c.nodes.result.now c.nodes.ensures.value c.args.table.now c.requires nodes read.0 in
    inr (
      read_pass file.size bytes file.counts file.counted c.nodes.result.now c.nodes.ensures.value c.args.table.now c.requires read.2,
      inr (
        order_pass file.size bytes file.counts file.counted nodes are c.in_default-find_order_fault.ensures.value,
        unused_refused file.size bytes file.counts file.counted nodes are c.in-Some-find_unused.i unused.0 unused.1,
      ),
    )

pub returns : goal.returns
returns c =
    let file = c.args.file.now in
    let bytes = file.bytes.now in
    let nodes = c.read_nodes.new.into in
    let read = c.in_default.ensures in
    let are = read_rows file.size bytes file.counts file.counted c.nodes.result.now c.nodes.ensures.value c.args.table.now c.requires nodes read.0 in
    let fine = tree_fine file.size bytes file.counts file.counted nodes are read.1 c.in_default-find_order_fault.ensures.value c.in_default-find_unused.ensures in
    let n = file.counts.nodes in
    let long : length nodes ≡ n = c.read_nodes.auto.into ∙ length-take-le n c.args.table.now c.requires in
    let rest = drop n c.args.table.now in
    let front : nodes ≡ take n (nodes ++ rest) = sym (take-append_seam nodes rest) ∙ ap (λ k. take k (nodes ++ rest)) long in
    subst (TreeFine file.size bytes) front fine
