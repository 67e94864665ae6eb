use Rattle.std.proofs.Common.{◌≡◌, ◌∙◌, None, subst, subst₂, inr, rules}
use Rattle.records.specs.Format.{format}
use Rattle.scenefile.specs.Checks.{◌▸◌, SolidsCheck, JointsCheck, NodesCheck, OrderCheck, UnusedCheck, RowsFine, Refused}
use Rattle.scenefile.specs.Header.{header_fault}
use Rattle.scenefile.proofs.Chains.{header_pass, then_more, solids_all_pass, joints_all_pass}
use Rattle.scenefile.proofs.check.check.Goals as goal

pub returns-in_err-check_rows : goal.returns-in_err-check_rows
returns-in_err-check_rows g c =
    let f = format g.M.Make.NUMBER g.M.Solid.Record g.M.Joint.Record in
    let b = c.args.bytes.now in
    let opened = c.in_ok-file.ensures in
    let none = subst₂ (λ m n. header_fault m n b c.args.rooms ≡ None) c.NUMBER.ensures c.LENGTH.ensures opened.2 in
    let e = c.in_err-check_rows.field-0.0 in
    let refused = subst (λ bytes. (SolidsCheck f bytes ▸ JointsCheck f bytes) e) opened.0 c.in_err-check_rows.ensures in
    let whole : Refused f b c.args.rooms e =
    inr (
      header_pass f.make f.size b c.args.rooms none,
      then_more (SolidsCheck f b) (JointsCheck f b) (NodesCheck f.size b ▸ OrderCheck f.size b ▸ UnusedCheck f.size b) e refused,
    ) in
    search rules

pub returns-in_err-check_tree : goal.returns-in_err-check_tree
returns-in_err-check_tree g c =
    let f = format g.M.Make.NUMBER g.M.Solid.Record g.M.Joint.Record in
    let b = c.args.bytes.now in
    let opened = c.in_ok-file.ensures in
    let none = subst₂ (λ m n. header_fault m n b c.args.rooms ≡ None) c.NUMBER.ensures c.LENGTH.ensures opened.2 in
    let e = c.in_err-check_tree.field-0.0 in
    let fine = subst (RowsFine f) opened.0 c.in_ok-check_rows.ensures in
    let refused = subst₂ (λ n bytes. (NodesCheck n bytes ▸ OrderCheck n bytes ▸ UnusedCheck n bytes) e) (opened.1 ∙ c.LENGTH.ensures) opened.0 c.in_err-check_tree.ensures in
    let whole : Refused f b c.args.rooms e =
    inr (
      header_pass f.make f.size b c.args.rooms none,
      inr (solids_all_pass f b fine, inr (joints_all_pass f b fine, refused)),
    ) in
    search rules
