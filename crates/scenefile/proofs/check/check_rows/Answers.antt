use Rattle.std.proofs.Common.{◌≡◌, ℕ, ◌*◌, ◌<◌, subst, inl, inr}
use Rattle.records.specs.Format.{format}
use Rattle.scenefile.specs.Header.{solids_start, joints_start}
use Rattle.scenefile.specs.Rows.{part, row, First, Nobodys}
use Rattle.scenefile.proofs.Chains.{solids_refused, solids_pass, joints_refused, rows_fine}
use Rattle.scenefile.proofs.Walks.{first_of, none_of, joints_part}
use Rattle.scenefile.proofs.check.check_rows.Goals as goal

pub returns-in-Some : goal.returns-in-Some
returns-in-Some g c =
    let f = format g.M.Make.NUMBER g.M.Solid.Record g.M.Joint.Record in
    let file = c.args.file.now in
    let bytes = file.bytes.now in
    let n = file.counts.solids in
    let is = subst (λ s. c.solids.result.now ≡ part solids_start (s * n) bytes) c.requires c.solids.ensures.value in
    inl (solids_refused f bytes file.counts file.counted c.in-Some.i (first_of (Nobodys f.solid) bytes c.solids.result.now solids_start f.size n is c.in-Some.i c.in-Some.ensures))

pub returns-in-Some-first_bad : goal.returns-in-Some-first_bad
returns-in-Some-first_bad g c =
    let f = format g.M.Make.NUMBER g.M.Solid.Record g.M.Joint.Record in
    let file = c.args.file.now in
    let bytes = file.bytes.now in
    let n = file.counts.solids in
    let i = c.in-Some-first_bad.i in
    let is = subst (λ s. c.solids.result.now ≡ part solids_start (s * n) bytes) c.requires c.solids.ensures.value in
    let four = g.met.M.Make.joint_length in
    let joints_are = joints_part bytes c.joints.result.now file.size f.size g.M.Joint.Record.LENGTH file.counts.joints c.requires four c.joints.ensures.value in
    let first = first_of (Nobodys f.joint) bytes c.joints.result.now (joints_start f.size bytes) g.M.Joint.Record.LENGTH file.counts.joints joints_are i c.in-Some-first_bad.ensures in
    inr (
      solids_pass f bytes file.counts file.counted (none_of (Nobodys f.solid) bytes c.solids.result.now solids_start f.size n is c.in_default.ensures),
      joints_refused f bytes file.counts file.counted i (subst (λ w. First (λ k. Nobodys f.joint (row bytes (joints_start f.size bytes) w k)) file.counts.joints i) four first),
    )

pub returns : goal.returns
returns g c =
    let f = format g.M.Make.NUMBER g.M.Solid.Record g.M.Joint.Record in
    let file = c.args.file.now in
    let bytes = file.bytes.now in
    let n = file.counts.solids in
    let is = subst (λ s. c.solids.result.now ≡ part solids_start (s * n) bytes) c.requires c.solids.ensures.value in
    let four = g.met.M.Make.joint_length in
    let joints_are = joints_part bytes c.joints.result.now file.size f.size g.M.Joint.Record.LENGTH file.counts.joints c.requires four c.joints.ensures.value in
    let none = none_of (Nobodys f.joint) bytes c.joints.result.now (joints_start f.size bytes) g.M.Joint.Record.LENGTH file.counts.joints joints_are c.in_default-first_bad.ensures in
    rows_fine f bytes file.counts file.counted (none_of (Nobodys f.solid) bytes c.solids.result.now solids_start f.size n is c.in_default.ensures)
    (subst (λ w. (k : ℕ) → k < file.counts.joints → Nobodys f.joint (row bytes (joints_start f.size bytes) w k) → ⊥) four none)
