-- A table of records looked through one by one, and as a part of its file. Assumes nothing.
use Rattle.std.proofs.Common.{◌≡◌, ℕ, ◌+◌, ◌-◌, ◌*◌, ◌<◌, ◌≤◌, List, [], ◌++◌, length, take, drop, sym, ap, ◌∙◌, subst, mul-le-mul_left, mul-suc, add-one, arith}
use Rattle.std.proofs.Math.Seq.{take-append_seam, drop-append_seam}
use Rattle.std.proofs.lemmas.List.{drop-drop, drop-take, take-take, length-append, length-drop}
use Rattle.std.proofs.lemmas.List.FromFn.{fill_by_all, length-map-range_with_len, get_or-map-range_with_len}
use Rattle.scenefile.specs.Header.{joints_start}
use Rattle.scenefile.specs.Rows.{part, row, rows, First}

zero_plus : (n : ℕ) → 0 + n ≡ n
zero_plus n = omega arith

next_at : (size i : ℕ) → size * i + size ≡ size * (i + 1)
next_at size i = omega (arith, mul-suc size i, ap (λ k. size * k) (add-one i))

-- what is left of a table of n records when i are behind
module _ (size n i : ℕ) (table rest : List ℕ) (long : length table ≡ size * n) (left : rest ≡ drop (size * i) table) (below : i < n) where
  pub record_is : take size rest ≡ row table 0 size i
  record_is = ap (take size) left ∙ ap (λ k. take size (drop k table)) (sym (zero_plus (size * i)))

  pub rest_is : drop size rest ≡ drop (size * (i + 1)) table
  rest_is = ap (drop size) left ∙ drop-drop size (size * i) table ∙ ap (λ k. drop k table) (next_at size i)

-- the same, where a record of four bytes and what follows it come together
module _ (n i : ℕ) (table left record_bytes after : List ℕ) (long : length table ≡ 4 * n) (is : left ≡ drop (4 * i) table) (parts : left ≡ record_bytes ++ after) (four : length record_bytes ≡ 4) where
  pub piece_below : i < n
  piece_below = omega (arith, ap length parts, ap length is, length-append record_bytes after, length-drop (4 * i) table)

  pub piece_is : record_bytes ≡ row table 0 4 i
  piece_is =
      sym (take-append_seam record_bytes after) ∙ ap (λ k. take k (record_bytes ++ after)) four ∙ ap (take 4) (sym parts ∙ is) ∙ ap (λ k. take 4 (drop k table)) (sym (zero_plus (4 * i)))

  pub after_is : after ≡ drop (4 * (i + 1)) table
  after_is =
      sym (drop-append_seam record_bytes after) ∙ ap (λ k. drop k (record_bytes ++ after)) four ∙ ap (drop 4) (sym parts ∙ is) ∙ drop-drop 4 (4 * i) table ∙ ap (λ k. drop k table) (next_at 4 i)

pub none_left : (n i : ℕ) (table left : List ℕ) → length table ≡ 4 * n → left ≡ drop (4 * i) table → length left < 4 → i ≤ n → i ≡ n
none_left n i table left long is short within = omega (arith, ap length is, length-drop (4 * i) table)

-- the records of a table are those of the file that it is a part of
row_of : (bytes : List ℕ) (start size n k : ℕ) → k < n → row (part start (size * n) bytes) 0 size k ≡ row bytes start size k
row_of bytes start size n k below =
    let all = mul-le-mul_left size below in
    let behind = size * k in
    let l = drop start bytes in
    let sum : size * n ≡ behind + (size * n - behind) = omega (arith, mul-suc size k) in
    let room : size ≤ size * n - behind = omega (arith, mul-suc size k) in
    ap (λ j. take size (drop j (take (size * n) l))) (zero_plus behind)
    ∙ ap (λ m. take size (drop behind (take m l))) sum
    ∙ ap (take size) (drop-take behind (size * n - behind) l)
    ∙ take-take size (size * n - behind) (drop behind l) room
    ∙ ap (take size) (drop-drop behind start bytes)

module _ (P : List ℕ → Type 0) (bytes table : List ℕ) (start size n : ℕ) (is : table ≡ part start (size * n) bytes) where
  at : (k : ℕ) → k < n → row table 0 size k ≡ row bytes start size k
  at k below = ap (λ t. row t 0 size k) is ∙ row_of bytes start size n k below

  pub none_of : ((k : ℕ) → k < n → P (row table 0 size k) → ⊥) → (k : ℕ) → k < n → P (row bytes start size k) → ⊥
  none_of none k below p = none k below (subst P (sym (at k below)) p)

  pub none_in : ((k : ℕ) → k < n → P (row bytes start size k) → ⊥) → (k : ℕ) → k < n → P (row table 0 size k) → ⊥
  none_in none k below p = none k below (subst P (at k below) p)

  pub first_of : (i : ℕ) → First (λ k. P (row table 0 size k)) n i → First (λ k. P (row bytes start size k)) n i
  first_of i first = record {
    within = first.within;
    here = subst P (at i first.within) first.here;
    before = λ k lt p. first.before k lt (subst P (sym (at k (omega (arith, first.within)))) p);
  }

pub rows_of : (bytes table : List ℕ) (start size n : ℕ) → table ≡ part start (size * n) bytes → rows table 0 size n ≡ rows bytes start size n
rows_of bytes table start size n is =
    fill_by_all (row bytes start size) (rows table 0 size n) n []
    (length-map-range_with_len (row table 0 size) 0 n)
    (λ k below. get_or-map-range_with_len (row table 0 size) 0 n k k [] below (zero_plus k) ∙ ap (λ t. row t 0 size k) is ∙ row_of bytes start size n k below)

-- the joints' table, by the lengths of records that the code has at hand
pub joints_part : (bytes table : List ℕ) (size s four n : ℕ) → size ≡ s → four ≡ 4 → table ≡ part (joints_start size bytes) (4 * n) bytes → table ≡ part (joints_start s bytes) (four * n) bytes
joints_part bytes table size s four n p q is =
    is ∙ ap (λ z. part (joints_start z bytes) (4 * n) bytes) p ∙ ap (λ w. part (joints_start s bytes) (w * n) bytes) (sym q)
