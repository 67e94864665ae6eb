use Rattle.std.proofs.Common.{◌≡◌, [], ◌∷◌, get_or, w16, w32, rules}
use Rattle.std.proofs.lemmas.Int.{to_z-of_z}
use Rattle.records.specs.Digits.{elements_all}
use Rattle.records.specs.LittleEndian.{u16_le, i16_le, i32_le}
use Rattle.records.proofs.raw.read_raw.Goals as goal

pub returns : goal.returns
returns c =
    let bytes = c.args.bytes.now in
    let all = elements_all 20 bytes (search rules) in
    let kind : u16_le c.from_le_bytes.result ≡ get_or bytes 0 0 ∷ get_or bytes 1 0 ∷ [] = search rules in
    let r : u16_le c.from_le_bytes-2.result ≡ get_or bytes 2 0 ∷ get_or bytes 3 0 ∷ [] = search rules in
    let x : i16_le c.from_le_bytes-3.result ≡ get_or bytes 4 0 ∷ get_or bytes 5 0 ∷ [] = search rules in
    let y : i16_le c.from_le_bytes-4.result ≡ get_or bytes 6 0 ∷ get_or bytes 7 0 ∷ [] = search rules in
    let z : i16_le c.from_le_bytes-5.result ≡ get_or bytes 8 0 ∷ get_or bytes 9 0 ∷ [] = search rules in
    let h0 : u16_le c.from_le_bytes-6.result ≡ get_or bytes 10 0 ∷ get_or bytes 11 0 ∷ [] = search rules in
    let h1 : u16_le c.from_le_bytes-7.result ≡ get_or bytes 12 0 ∷ get_or bytes 13 0 ∷ [] = search rules in
    let h2 : u16_le c.from_le_bytes-8.result ≡ get_or bytes 14 0 ∷ get_or bytes 15 0 ∷ [] = search rules in
    let d : i32_le c.from_le_bytes-9.result ≡ get_or bytes 16 0 ∷ get_or bytes 17 0 ∷ get_or bytes 18 0 ∷ get_or bytes 19 0 ∷ [] = search rules in
    let fx = to_z-of_z w16 c.from_le_bytes-3.result (search rules) in
    let fy = to_z-of_z w16 c.from_le_bytes-4.result (search rules) in
    let fz = to_z-of_z w16 c.from_le_bytes-5.result (search rules) in
    let fd = to_z-of_z w32 c.from_le_bytes-9.result (search rules) in
    cc
