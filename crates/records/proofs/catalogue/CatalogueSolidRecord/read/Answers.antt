use Rattle.std.proofs.Common.{sym, ◌∙◌, rules}
use Rattle.records.specs.Catalogue.{raw_of}
use Rattle.records.specs.Raw.{raw_record}
use Rattle.records.specs.Fields.{Fit, raw_same, fit_of}
use Rattle.records.proofs.Stages.{reads_through}
use Rattle.records.proofs.catalogue.CatalogueSolidRecord.read.Goals as goal

pub returns : goal.returns
returns c =
    let raw = c.in_ok-raw.raw in
    let is = c.in_ok-raw.ensures in
    let fits : Fit raw = record { x = search rules; y = search rules; z = search rules; d = search rules } in
    reads_through raw_of raw_record raw c.args.bytes.now is
    (λ s e. raw_same (raw_of s) raw (fit_of s) fits (e ∙ sym is))
    c.read_fields.result
    c.read_fields.ensures
