-- Bytes laid one after another over the front of an output. Assumes nothing.
use Rattle.std.proofs.Common.{◌≡◌, ℕ, ◌+◌, ◌-◌, ◌*◌, ◌<◌, ◌≤◌, List, [], ◌∷◌, ◌++◌, map, length, get_or, take, drop, sym, refl, ap, ◌∙◌, ap₂, append_assoc, append-nil, mul-le-mul_left, mul-zero, mul-suc, arith, length-append, length-drop, length-take, take_all, drop-drop, take_at, drop_at}
use borrow.Rule.Slice.PartMut.{put_mid, Post-is}
use lib.Seq.{drop-length}
use Rattle.roundtrip.specs.Bytes.{concat}
use Rattle.std.proofs.lemmas.List.{take_more}
use Rattle.std.proofs.lemmas.Bool.{le-leb}
use Rattle.records.specs.Put.{put}

-- the front of an output is `front`, and the rest is as it was
abbrev pub Laid : List ℕ → List ℕ → List ℕ → Type 0
Laid front was out = out ≡ front ++ drop (length front) was

put_fits : (bytes out : List ℕ) → length bytes ≤ length out → put bytes out ≡ bytes ++ drop (length bytes) out
put_fits bytes out h = rw (le-leb (length bytes) (length out) h)

-- more bytes behind the front
pub laid_more : (front bytes was out part : List ℕ) → length front + length bytes ≤ length was → Laid front was out → part ≡ put bytes (drop (length front) out) → Laid (front ++ bytes) was (take (length front) out ++ part)
laid_more front bytes was out part room so_far written =
    let rest = drop (length front) was in
    let front_is : take (length front) out ≡ front = ap (take (length front)) so_far ∙ take_at front rest (length front) refl in
    let rest_is : drop (length front) out ≡ rest = ap (drop (length front)) so_far ∙ drop_at front rest (length front) refl in
    let fits : length bytes ≤ length rest = simp length-drop (omega arith) in
    let part_is : part ≡ bytes ++ drop (length bytes) rest = written ∙ ap (put bytes) rest_is ∙ put_fits bytes rest fits in
    ap₂ ◌++◌ front_is part_is
    ∙ sym (append_assoc front bytes (drop (length bytes) rest))
    ∙ ap (λ r. (front ++ bytes) ++ r) (drop-drop (length bytes) (length front) was ∙ ap (λ k. drop k was) (sym (length-append front bytes)))

-- a part from a place on, written anew
part_is : (xs ys : List ℕ) (a : ℕ) → a ≤ length xs → put_mid a (length xs - a) xs ys ≡ take a xs ++ ys
part_is xs ys a h =
    ap (λ p. take a xs ++ (ys ++ p)) (Post-is a (length xs) xs h ∙ drop-length xs) ∙ ap (λ l. take a xs ++ l) (append-nil ys)

-- ---- rows

module _ {R : Type 0} (written : R → List ℕ) (size : ℕ) (sized : (x : R) → length (written x) ≡ size) where
  concat_length : (xs : List R) → length (concat (map written xs)) ≡ size * length xs
  concat_length [] = sym (mul-zero size)
  concat_length (x ∷ xs) = length-append (written x) (concat (map written xs)) ∙ omega (arith, sized x, concat_length xs, mul-suc size (length xs))

  concat_push : (xs : List R) (x : R) → concat (map written (xs ++ (x ∷ []))) ≡ concat (map written xs) ++ written x
  concat_push [] x = append-nil (written x)
  concat_push (y ∷ xs) x = ap (λ l. written y ++ l) (concat_push xs x) ∙ sym (append_assoc (written y) (concat (map written xs)) (written x))

  module _ (rows : List R) (was : List ℕ) (start : ℕ) (room : start + size * length rows ≤ length was) where
    -- what stands in front once i rows are written
    abbrev pub front : ℕ → List ℕ
    front i = take start was ++ concat (map written (take i rows))

    pub front_length : (i : ℕ) → i ≤ length rows → length (front i) ≡ start + size * i
    front_length i h =
        let few : start ≤ length was = omega arith in
        let many = length-take i rows in
        let head = length-take start was in
        let all : length (take i rows) ≡ i = omega arith in
        length-append (take start was) (concat (map written (take i rows)))
        ∙ omega (arith, head, few, concat_length (take i rows), ap (λ k. size * k) all)

    pub front_more : (i : ℕ) (x : R) → i < length rows → x ≡ get_or rows i x → front (i + 1) ≡ front i ++ written x
    front_more i x within is =
        ap (λ l. take start was ++ concat (map written l)) (take_more rows i x within ∙ ap (λ y. take i rows ++ (y ∷ [])) (sym is))
        ∙ ap (λ l. take start was ++ l) (concat_push (take i rows) x)
        ∙ sym (append_assoc (take start was) (concat (map written (take i rows))) (written x))

    pub rows_more : (i : ℕ) (x : R) (out part : List ℕ) (at : ℕ) → at ≡ start + size * i → i < length rows → x ≡ get_or rows i x → length out ≡ length was → Laid (front i) was out → part ≡ put (written x) (drop at out) → Laid (front (i + 1)) was (put_mid at (length out - at) out part)
    rows_more i x out part at at_is within is long so_far put_is =
        let next = mul-le-mul_left size within in
        let at_front : length (front i) ≡ at = front_length i (omega arith) ∙ sym at_is in
        let fits : length (front i) + length (written x) ≤ length was = omega (arith, sized x, mul-suc size i) in
        let inside : at ≤ length out = omega arith in
        part_is out part at inside
        ∙ ap (λ k. take k out ++ part) (sym at_front)
        ∙ laid_more (front i) (written x) was out part fits so_far (put_is ∙ ap (λ k. put (written x) (drop k out)) (sym at_front))
        ∙ ap (λ f. f ++ drop (length f) was) (sym (front_more i x within is))

    pub rows_all : (i : ℕ) (out : List ℕ) → i ≡ length rows → Laid (front i) was out → out ≡ take start was ++ (concat (map written rows) ++ drop (start + size * length rows) was)
    rows_all i out done so_far =
        let every : take i rows ≡ rows = ap (λ k. take k rows) done ∙ take_all (length rows) rows (omega arith) in
        let len : length (front i) ≡ start + size * length rows = front_length i (omega arith) ∙ ap (λ k. start + size * k) done in
        so_far
        ∙ ap₂ (λ f k. f ++ drop k was) (ap (λ l. take start was ++ concat (map written l)) every) len
        ∙ append_assoc (take start was) (concat (map written rows)) (drop (start + size * length rows) was)
