use Rattle.std.proofs.Common.{◌≡◌, [], ◌∷◌, get_or, sym, ◌∙◌, w16, SFits, rules}
use Rattle.std.proofs.lemmas.Int.{to_z-of_z}
use Rattle.space.specs.At.{at}
use Rattle.space.specs.Pt.{Pt}
use Rattle.records.specs.Point.{pt_record}
use Rattle.records.specs.Reads.{Reads}
use Rattle.records.specs.Digits.{elements_all}
use Rattle.records.specs.LittleEndian.{i16_le}
use Rattle.records.specs.Points.{pt_same, point_fits}
use Rattle.records.proofs.Stages.{reads_through}
use Rattle.records.proofs.point.read_point.Goals as goal

pub returns : goal.returns
returns c =
    let bytes = c.args.bytes.now in
    let p : Pt = record { x = c.from_le_bytes.result; y = c.from_le_bytes-2.result; z = c.from_le_bytes-3.result } in
    let x : SFits w16 c.from_le_bytes.result = search rules in
    let y : SFits w16 c.from_le_bytes-2.result = search rules in
    let z : SFits w16 c.from_le_bytes-3.result = search rules in
    let all = elements_all 6 bytes (search rules) in
    let xs : i16_le c.from_le_bytes.result ≡ get_or bytes 0 0 ∷ get_or bytes 1 0 ∷ [] = search rules in
    let ys : i16_le c.from_le_bytes-2.result ≡ get_or bytes 2 0 ∷ get_or bytes 3 0 ∷ [] = search rules in
    let zs : i16_le c.from_le_bytes-3.result ≡ get_or bytes 4 0 ∷ get_or bytes 5 0 ∷ [] = search rules in
    let is : pt_record p ≡ bytes = cc in
    let read : Reads at p c.point.result = simp to_z-of_z at c.point.ensures in
    reads_through at pt_record p bytes is
    (λ s e. pt_same (at s) p (point_fits s) (record { x = x; y = y; z = z }) (e ∙ sym is))
    c.point.result
    read
