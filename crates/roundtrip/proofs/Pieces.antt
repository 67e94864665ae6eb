-- Lists of records, one after another. Assumes nothing.
use Rattle.std.proofs.Common.{◌≡◌, ℕ, zero, suc, ◌+◌, ◌*◌, ◌≤◌, List, [], ◌∷◌, ◌++◌, map, length, take, drop, sym, refl, ap, ◌∙◌, ap₂, append_assoc, mul-zero, mul-suc, add-one, arith, length-append, take_all, drop-drop, take_at, take-add, drop_at}
use Rattle.std.specs.List.{range_with_len}
use Rattle.roundtrip.specs.Bytes.{concat}
use Rattle.scenefile.specs.Rows.{row, rows}

-- the records of a table, one after another, are its bytes
rows_from : (bytes : List ℕ) (start size a n : ℕ) → concat (map (row bytes start size) (range_with_len a n)) ≡ take (size * n) (drop (start + size * a) bytes)
rows_from bytes start size a zero = rw mul-zero
rows_from bytes start size a (suc n) =
    let here = drop (start + size * a) bytes in
    let on : start + size * a + size ≡ start + size * (a + 1) = omega (arith, ap (λ k. size * k) (add-one a), mul-suc size a) in
    let all : size * suc n ≡ size + size * n = omega (arith, mul-suc size n) in
    let rest : drop size here ≡ drop (start + size * (a + 1)) bytes = drop-drop size (start + size * a) bytes ∙ ap (λ k. drop k bytes) on in
    ap (λ r. take size here ++ r) (rows_from bytes start size (a + 1) n)
    ∙ sym (ap (λ k. take k here) all ∙ take-add size (size * n) here ∙ ap (λ r. take size here ++ take (size * n) r) rest)

pub rows_bytes : (bytes : List ℕ) (start size n : ℕ) → concat (rows bytes start size n) ≡ take (size * n) (drop start bytes)
rows_bytes bytes start size n =
    let begins : start + size * 0 ≡ start = omega (arith, mul-zero size) in
    rows_from bytes start size 0 n ∙ ap (λ k. take (size * n) (drop k bytes)) begins

-- four parts that follow one another to the end are the whole
pub four_parts : (l : List ℕ) (a b c d : ℕ) → length l ≡ a + b + c + d → take a l ++ (take b (drop a l) ++ (take c (drop (a + b) l) ++ take d (drop (a + b + c) l))) ≡ l
four_parts l a b c d all =
    let end : length l ≤ a + b + c + d = omega arith in
    sym (sym (take_all (a + b + c + d) l end)
    ∙ take-add (a + b + c) d l
    ∙ ap (λ x. x ++ take d (drop (a + b + c) l)) (take-add (a + b) c l)
    ∙ ap (λ x. x ++ take c (drop (a + b) l) ++ take d (drop (a + b + c) l)) (take-add a b l)
    ∙ simp append_assoc)

-- past a part comes what follows it
pub next_part : (bytes p q : List ℕ) (start n : ℕ) → drop start bytes ≡ p ++ q → length p ≡ n → drop (start + n) bytes ≡ q
next_part bytes p q start n here long = sym (drop-drop n start bytes) ∙ ap (drop n) here ∙ drop_at p q n long

-- records of one size
module _ {X : Type 0} (written : X → List ℕ) (size : ℕ) (sized : (x : X) → length (written x) ≡ size) where
  pub length_records : (xs : List X) → length (concat (map written xs)) ≡ size * length xs
  length_records [] = sym (mul-zero size)
  length_records (x ∷ xs) = length-append (written x) (concat (map written xs)) ∙ ap₂ ◌+◌ (sized x) (length_records xs) ∙ (omega (arith, mul-suc size (length xs)))

  records_from : (bytes rest : List ℕ) (start a : ℕ) (xs : List X) → drop (start + size * a) bytes ≡ concat (map written xs) ++ rest → map written xs ≡ map (row bytes start size) (range_with_len a (length xs))
  records_from bytes rest start a [] here = refl
  records_from bytes rest start a (x ∷ xs) here =
      let more = concat (map written xs) ++ rest in
      let begins : drop (start + size * a) bytes ≡ written x ++ more = here ∙ append_assoc (written x) (concat (map written xs)) rest in
      let on : start + size * a + size ≡ start + size * (a + 1) = omega (arith, ap (λ k. size * k) (add-one a), mul-suc size a) in
      let then : drop (start + size * (a + 1)) bytes ≡ more = ap (λ k. drop k bytes) (sym on) ∙ next_part bytes (written x) more (start + size * a) size begins (sized x) in
      ap₂ ◌∷◌ (sym (ap (take size) begins ∙ take_at (written x) more size (sized x))) (records_from bytes rest start (a + 1) xs then)

  -- the rows of a table that was written
  pub records_back : (bytes rest : List ℕ) (start : ℕ) (xs : List X) → drop start bytes ≡ concat (map written xs) ++ rest → map written xs ≡ rows bytes start size (length xs)
  records_back bytes rest start xs here =
      let begins : start + size * 0 ≡ start = omega (arith, mul-zero size) in
      records_from bytes rest start 0 xs (ap (λ k. drop k bytes) begins ∙ here)
