-- Numbers, written and read. Assumes nothing.
use Rattle.std.proofs.Common.{◌≡◌, ℕ, ◌+◌, ◌*◌, ◌/◌, ◌%◌, ◌<◌, ◌≤◌, List, [], ◌∷◌, ◌++◌, map, length, get_or, take, sym, ◌∙◌, arith, length-take-le, get_or-take}
use Rattle.records.specs.LittleEndian.{u16_le, u32_le}
use Rattle.roundtrip.specs.Bytes.{header_bytes}
use Rattle.scenefile.specs.Header.{u16_at, u32_at, make_of, count, joints_offset, nodes_offset}
use Rattle.space.specs.declared.refusal.Table.TheVariants.{Solids, Joints, Nodes}
use Rattle.std.specs.List.{range_with_len}
use Rattle.std.proofs.lemmas.List.FromFn.{fill_by_all}

-- a number that is read, written again
u16_again : (a b : ℕ) → a < 256 → b < 256 → u16_le (a + b * 256) ≡ a ∷ b ∷ []
u16_again a b p q =
    let low : (a + b * 256) % 256 ≡ a = omega arith in
    let high : (a + b * 256) / 256 ≡ b = omega arith in
    λ i. low i ∷ high i ∷ []

u32_again : (a b c d : ℕ) → a < 256 → b < 256 → c < 256 → d < 256 → u32_le (a + b * 256 + c * 65536 + d * 16777216) ≡ a ∷ b ∷ c ∷ d ∷ []
u32_again a b c d p q r s =
    let n = a + b * 256 + c * 65536 + d * 16777216 in
    let first : n % 256 ≡ a = omega arith in
    let past_one : n / 256 ≡ b + (c + d * 256) * 256 = omega arith in
    let past_two : n / 65536 ≡ c + d * 256 = omega arith in
    let second : n / 256 % 256 ≡ b = rw past_one (omega arith) in
    let third : n / 65536 % 256 ≡ c = rw past_two (omega arith) in
    let fourth : n / 16777216 ≡ d = omega arith in
    λ i. first i ∷ second i ∷ third i ∷ fourth i ∷ []

front : (bytes : List ℕ) (n : ℕ) → n ≤ length bytes → take n bytes ≡ map (λ i. get_or bytes i 0) (range_with_len 0 n)
front bytes n long = fill_by_all (λ i. get_or bytes i 0) (take n bytes) n 0 (length-take-le n bytes long) (λ k below. get_or-take n bytes k 0 below)

-- the numbers of a header, written again
pub numbers_again : (bytes : List ℕ) → 20 ≤ length bytes → ((i : ℕ) → get_or bytes i 0 < 256)
    → u16_le (u16_at 0 bytes) ++ u16_le (u16_at 2 bytes) ++ u16_le (u16_at 4 bytes) ++ u16_le (u16_at 6 bytes) ++ u32_le (u32_at 8 bytes) ++ u32_le (u32_at 12 bytes) ++ u32_le (u32_at 16 bytes) ≡ take 20 bytes
numbers_again bytes long small =
    let at : ℕ → ℕ = λ i. get_or bytes i 0 in
    let two = λ (i j : ℕ). u16_again (at i) (at j) (small i) (small j) in
    let four = λ (i j k l : ℕ). u32_again (at i) (at j) (at k) (at l) (small i) (small j) (small k) (small l) in
    (λ i. two 0 1 i ++ two 2 3 i ++ two 4 5 i ++ two 6 7 i ++ four 8 9 10 11 i ++ four 12 13 14 15 i ++ four 16 17 18 19 i)
    ∙ sym (front bytes 20 long)

-- a number that is written, read again
u16_back : (n : ℕ) → n % 256 + n / 256 * 256 ≡ n
u16_back n = omega arith

u32_back : (n : ℕ) → n % 256 + n / 256 % 256 * 256 + n / 65536 % 256 * 65536 + n / 16777216 * 16777216 ≡ n
u32_back n =
    let past_two : n / 65536 ≡ n / 256 / 256 = omega arith in
    let past_three : n / 16777216 ≡ n / 65536 / 256 = omega arith in
    omega arith

-- the numbers of a header, read again
module _ (make size solids joints nodes : ℕ) (rest : List ℕ) where
  abbrev bytes : List ℕ
  bytes = header_bytes make size solids joints nodes ++ rest

  pub make_back : make_of bytes ≡ make
  make_back = u16_back make

  pub solids_back : count Solids bytes ≡ solids
  solids_back = u16_back solids

  pub joints_back : count Joints bytes ≡ joints
  joints_back = u16_back joints

  pub nodes_back : count Nodes bytes ≡ nodes
  nodes_back = u16_back nodes

  pub joints_offset_back : joints_offset bytes ≡ 20 + size * solids
  joints_offset_back = u32_back (20 + size * solids)

  pub nodes_offset_back : nodes_offset bytes ≡ 20 + size * solids + 4 * joints
  nodes_offset_back = u32_back (20 + size * solids + 4 * joints)
