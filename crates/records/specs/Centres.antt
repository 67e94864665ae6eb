-- The eight centres of a probed solid, read one by one. Assumes nothing.
use Rattle.std.specs.Prelude.{◌≡◌, ℕ, zero, suc, ◌+◌, ◌*◌, ◌<◌, ◌≤◌, ◌≢◌, List, ◌++◌, length, slice_index_or, slice_set, refl}
use Rattle.std.proofs.Common.{arith, ap, ◌∙◌, length-set, get_or-set_same, get_or-set_other, below_more}
use Rattle.space.specs.declared.point.Point.{Point}
use Rattle.solids.specs.declared.probed.Probed.{Probed}
use Rattle.records.specs.Elements.{elements}
use Rattle.records.specs.LittleEndian.{u16_le}
use Rattle.records.specs.Point.{point_record, origin}
use Rattle.records.specs.Probed.{centres_record, probed_record}
use Rattle.records.specs.Digits.{elements_all}

-- the bytes of the centre at place k
pub centre_at : (s : Probed) (k : ℕ) → k < 8 → point_record (slice_index_or s.centres k origin) ≡ elements (4 + 6 * k) 6 (probed_record s)
centre_at s zero h = refl
centre_at s (suc zero) h = refl
centre_at s (suc (suc zero)) h = refl
centre_at s (suc (suc (suc zero))) h = refl
centre_at s (suc (suc (suc (suc zero)))) h = refl
centre_at s (suc (suc (suc (suc (suc zero))))) h = refl
centre_at s (suc (suc (suc (suc (suc (suc zero)))))) h = refl
centre_at s (suc (suc (suc (suc (suc (suc (suc zero))))))) h = refl
centre_at s (suc (suc (suc (suc (suc (suc (suc (suc k)))))))) h = absurd (let f : ⊥ = omega arith in f)

-- the first i centres are read
pub record Filled (bytes : List ℕ) (i : ℕ) (centres : List Point) : Type 0 where
  pub eight : length centres ≡ 8
  pub read : (k : ℕ) → k < i → point_record (slice_index_or centres k origin) ≡ elements (4 + 6 * k) 6 bytes

-- all eight are read
pub filled_all : (bytes : List ℕ) (count radius i : ℕ) (centres : List Point) → length bytes ≡ 52 → u16_le count ≡ elements 0 2 bytes → u16_le radius ≡ elements 2 2 bytes → 8 ≤ i → Filled bytes i centres → u16_le count ++ u16_le radius ++ centres_record 0 8 centres ≡ bytes
filled_all bytes count radius i centres long a b all f =
    let at : (k : ℕ) → k < 8 → point_record (slice_index_or centres k origin) ≡ elements (4 + 6 * k) 6 bytes = λ k h. f.read k (omega arith) in
    let parts : u16_le count ++ u16_le radius ++ centres_record 0 8 centres ≡ elements 0 52 bytes =
    λ j. a j ++ b j ++ (at 0 (omega arith) j ++ (at 1 (omega arith) j ++ (at 2 (omega arith) j ++ (at 3 (omega arith) j ++ (at 4 (omega arith) j ++ (at 5 (omega arith) j ++ (at 6 (omega arith) j ++ at 7 (omega arith) j))))))) in
    parts ∙ elements_all 52 bytes long

-- one more centre
pub filled_more : (bytes : List ℕ) (i : ℕ) (centres : List Point) (p : Point) → i < 8 → Filled bytes i centres → point_record p ≡ elements (4 + 6 * i) 6 bytes → Filled bytes (i + 1) (slice_set centres i p)
filled_more bytes i centres p lt f is = record {
  eight = length-set centres i p ∙ f.eight;
  read =
      below_more (λ k. point_record (slice_index_or (slice_set centres i p) k origin) ≡ elements (4 + 6 * k) 6 bytes) i
      (λ k h. let ne : k ≢ i = omega arith in ap point_record (get_or-set_other centres i k p origin ne) ∙ f.read k h)
      (ap point_record (get_or-set_same centres i p origin (omega (arith, f.eight))) ∙ is);
}

-- bytes that are the record of some solid
module _ (bytes : List ℕ) (s : Probed) (e : probed_record s ≡ bytes) (i : ℕ) (lt : i < 8) where
  pub centre_is : point_record (slice_index_or s.centres i origin) ≡ elements (4 + 6 * i) 6 bytes
  centre_is = centre_at s i lt ∙ ap (elements (4 + 6 * i) 6) e

  pub some_centre : ((p : Point) → point_record p ≢ elements (4 + 6 * i) 6 bytes) → ⊥
  some_centre none = none (slice_index_or s.centres i origin) centre_is
