use Rattle.std.proofs.Common.{◌≡◌, ◌*◌, ◌≤◌, length, take, drop, sym, ap, ◌∙◌, subst, rules}
use Rattle.records.specs.Format.{format}
use Rattle.scenefile.specs.Checks.{Checked, TreeFine}
use Rattle.scenefile.specs.Load.{held, rooms_of}
use Rattle.scenefile.specs.Header.{solids_start, joints_start}
use Rattle.scenefile.specs.Rows.{part}
use Rattle.tree.specs.Rows.{whole_entries}
use Rattle.scenefile.proofs.Loads.{solids_good, solid_rows_are, joints_good, joint_rows_are, front_is}
use Rattle.scenefile.proofs.load.load.Goals as goal

pub fill-requires-clause-good : goal.fill-requires-clause-good
fill-requires-clause-good g c =
    let f = format g.M.Make.NUMBER g.M.Solid.Record g.M.Joint.Record in
    let b = c.args.bytes.now in
    let file = c.in_ok-file.file in
    let opened = c.in_ok-file.ensures in
    let checked = subst (λ r. Checked f b r file.counts (take file.counts.nodes c.check.new.table)) c.rooms.ensures opened.2 in
    let is = subst (λ bytes. c.solids.result.now ≡ part solids_start (file.size * file.counts.solids) bytes) opened.0 c.solids.ensures.value in
    solids_good f b (rooms_of (held c.args.tables.now)) file.counts _ checked c.solids.result.now file.size opened.1 is

pub fill-requires-2-clause-good : goal.fill-requires-2-clause-good
fill-requires-2-clause-good g c =
    let f = format g.M.Make.NUMBER g.M.Solid.Record g.M.Joint.Record in
    let b = c.args.bytes.now in
    let file = c.in_ok-file.file in
    let opened = c.in_ok-file.ensures in
    let checked = subst (λ r. Checked f b r file.counts (take file.counts.nodes c.check.new.table)) c.rooms.ensures opened.2 in
    let is = subst (λ bytes. c.joints.result.now ≡ part (joints_start file.size bytes) (4 * file.counts.joints) bytes) opened.0 c.joints.ensures.value in
    joints_good f b (rooms_of (held c.args.tables.now)) file.counts _ checked c.joints.result.now file.size g.M.Joint.Record.LENGTH opened.1 g.met.M.Make.joint_length is

pub returns-clause-outcome : goal.returns-clause-outcome
returns-clause-outcome g c =
    let f = format g.M.Make.NUMBER g.M.Solid.Record g.M.Joint.Record in
    let b = c.args.bytes.now in
    let file = c.in_ok-file.file in
    let counts = file.counts in
    let n = counts.nodes in
    let opened = c.in_ok-file.ensures in
    let tables = c.args.tables.now in
    let own = c.check.new.table in
    let checked = subst (λ r. Checked f b r counts (take n own)) c.rooms.ensures opened.2 in
    let solids_is = subst (λ bytes. c.solids.result.now ≡ part solids_start (file.size * counts.solids) bytes) opened.0 c.solids.ensures.value in
    let joints_is = subst (λ bytes. c.joints.result.now ≡ part (joints_start file.size bytes) (4 * counts.joints) bytes) opened.0 c.joints.ensures.value in
    let long : n ≤ length own = search rules in
    let nodes_front = front_is own n long (λ k front. take k c.copy_nodes.new.table ≡ front) c.copy_nodes.ensures.front in
    record {
      no_fault = checked.no_fault;
      counted = checked.counted;
      roomy = checked.roomy;
      solids_are = c.fill.ensures.front ∙ solid_rows_are f b _ counts _ checked c.solids.result.now file.size opened.1 solids_is;
      joints_are = c.fill-2.ensures.front ∙ joint_rows_are f b _ counts _ checked c.joints.result.now file.size g.M.Joint.Record.LENGTH opened.1 g.met.M.Make.joint_length joints_is;
      nodes_are = subst (TreeFine f.size b) (sym nodes_front) checked.tree_fine;
      list_is = front_is own n long (λ k front. take k c.write_whole.new.list ≡ whole_entries front) c.write_whole.ensures.front ∙ ap whole_entries (sym nodes_front);
      solids_rest = c.fill.ensures.rest;
      joints_rest = c.fill-2.ensures.rest;
      nodes_rest = front_is own n long (λ k front. drop k c.copy_nodes.new.table ≡ drop k tables.nodes.now) c.copy_nodes.ensures.rest;
      list_rest = front_is own n long (λ k front. drop k c.write_whole.new.list ≡ drop k tables.list.now) c.write_whole.ensures.rest;
    }
