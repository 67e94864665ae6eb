-- The centres of a probed solid, which come piece by piece. Assumes nothing.
use Rattle.std.proofs.Common.{◌≡◌, ℕ, zero, suc, ◌+◌, ◌-◌, ◌*◌, ◌<◌, ◌≤◌, true, List, [], ◌∷◌, ◌++◌, length, get_or, take, drop, sym, refl, ap, ◌∙◌, arith}
use Rattle.std.proofs.Math.Seq.{drop-append_seam}
use Rattle.std.proofs.lemmas.List.{drop-drop, ext_get_or, length-append, length-drop, take_all}
use Rattle.space.specs.At.{at}
use Rattle.space.specs.declared.point.Point.{Point}
use Rattle.solids.specs.Unused.{all_origin}
use Rattle.solids.specs.declared.probed.Probed.{Probed}
use Rattle.records.specs.Elements.{elements}
use Rattle.records.specs.LittleEndian.{u16_le}
use Rattle.records.specs.Point.{origin}
use Rattle.records.specs.Probed.{probed_record}
use Rattle.records.specs.Apart.{point_apart}
use Rattle.records.specs.Centres.{Filled, centre_is}
use Rattle.records.specs.Digits.{elements_tail, two_digits}
use Rattle.records.specs.Points.{pt_same, point_fits}

front : (x rest : List ℕ) → elements 0 (length x) (x ++ rest) ≡ x
front [] rest = refl
front (b ∷ x) rest = ap (λ ys. b ∷ ys) (elements_tail 0 (length x) b (x ++ rest) ∙ front x rest)

piece_is : (at : ℕ) (bytes x rest : List ℕ) → drop at bytes ≡ x ++ rest → x ≡ elements at (length x) bytes
piece_is zero bytes x rest e = sym (front x rest) ∙ ap (elements 0 (length x)) (sym e)
piece_is (suc at) [] [] rest e = refl
piece_is (suc at) [] (b ∷ x) rest e = absurd (let f : ⊥ = omega (arith, ap length e) in f)
piece_is (suc at) (b ∷ bytes) x rest e = piece_is at bytes x rest e ∙ sym (elements_tail at (length x) b bytes)

rest_is : (at : ℕ) (bytes x rest : List ℕ) → drop at bytes ≡ x ++ rest → rest ≡ drop (at + length x) bytes
rest_is at bytes x rest e = sym (drop-append_seam x rest) ∙ ap (drop (length x)) (sym e) ∙ drop-drop (length x) at bytes

-- the bytes of the centre at place i, and what follows them
pub record Piece (bytes : List ℕ) (i : ℕ) (piece rest : List ℕ) : Type 0 where
  pub below : i < 8
  pub here : piece ≡ elements (4 + 6 * i) 6 bytes
  pub next : rest ≡ drop (4 + 6 * (i + 1)) bytes

pub piece_of : (bytes left piece rest : List ℕ) (i : ℕ) → length bytes ≡ 52 → left ≡ drop (4 + 6 * i) bytes → left ≡ piece ++ rest → length piece ≡ 6 → Piece bytes i piece rest
piece_of bytes left piece rest i long is parts six =
    let e = sym is ∙ parts in
    let sum : 4 + 6 * i + length piece ≡ 4 + 6 * (i + 1) = omega arith in
    record {
      below = omega (arith, ap length e, length-append piece rest, length-drop (4 + 6 * i) bytes);
      here = piece_is (4 + 6 * i) bytes piece rest e ∙ ap (λ n. elements (4 + 6 * i) n bytes) six;
      next = rest_is (4 + 6 * i) bytes piece rest e ∙ ap (λ n. drop n bytes) sum;
    }

-- where no piece is left, eight have come
pub no_piece : (bytes left : List ℕ) (i : ℕ) → length bytes ≡ 52 → left ≡ drop (4 + 6 * i) bytes → length left < 6 → 8 ≤ i
no_piece bytes left i long is short = omega (arith, ap length is, length-drop (4 + 6 * i) bytes)

-- a part of the centres that goes to their end
pub unused_is : (from count : ℕ) (centres : List Point) → length centres ≡ 8 → from ≡ count → take (8 - from) (drop from centres) ≡ drop count centres
unused_is from count centres eight e =
    let all : length (drop from centres) ≤ 8 - from = omega (arith, length-drop from centres) in
    take_all (8 - from) (drop from centres) all ∙ ap (λ n. drop n centres) e

-- past its count, the centres read from a solid's record are the origin
module _ (bytes : List ℕ) (s : Probed) (e : probed_record s ≡ bytes) where
  pub unused_are : (count i : ℕ) (centres : List Point) → 8 ≤ i → Filled bytes i centres → u16_le count ≡ elements 0 2 bytes → all_origin (drop count centres) ≡ true
  unused_are count i centres all f c =
      let digit : (k : ℕ) → get_or (probed_record s) k 0 ≡ get_or bytes k 0 = λ k. ap (λ xs. get_or xs k 0) e in
      let counted : s.count ≡ count =
      two_digits s.count count
      (digit 0 ∙ sym (ap (λ xs. get_or xs 0 0) c))
      (digit 1 ∙ sym (ap (λ xs. get_or xs 1 0) c)) in
      let one : (k : ℕ) → k < 8 → get_or s.centres k origin ≡ get_or centres k origin =
      λ k lt.
      point_apart (get_or s.centres k origin) (get_or centres k origin)
      (pt_same (at (get_or s.centres k origin)) (at (get_or centres k origin)) (point_fits (get_or s.centres k origin)) (point_fits (get_or centres k origin)) (centre_is bytes s e k lt ∙ sym (f.read k (omega arith)))) in
      let same : s.centres ≡ centres = ext_get_or origin s.centres centres (s.eight ∙ sym f.eight) (λ k lt. one k (omega (arith, s.eight))) in
      sym (λ j. all_origin (drop (counted j) (same j))) ∙ s.unused
