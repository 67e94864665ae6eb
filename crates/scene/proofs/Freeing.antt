-- A front of a table that is cut short, moved down, or changed in its last row. Assumes nothing.
use Rattle.std.proofs.Common.{◌≡◌, ℕ, ◌+◌, ◌-◌, ◌≤◌, Bool, true, false, cond, List, ◌++◌, length, take, drop, sym, ap, ◌∙◌, arith, length-drop, drop-drop, take-add}
use lib.Seq.{paste, take-paste, drop-paste}

-- lists that agree from one place on agree from a later one on
pub drop_later : {X : Type 0} (xs ys : List X) (n m : ℕ) → n ≤ m → drop n xs ≡ drop n ys → drop m xs ≡ drop m ys
drop_later xs ys n m later same =
    let up : m ≡ n + (m - n) = omega arith in
    ap (λ k. drop k xs) up ∙ sym (drop-drop (m - n) n xs) ∙ ap (drop (m - n)) same ∙ drop-drop (m - n) n ys ∙ ap (λ k. drop k ys) (sym up)

module _ {X : Type 0} (xs : List X) where
  -- two parts, from first to second and from there to end
  module _ (first second end : ℕ) (rising : first ≤ second) (ends : second ≤ end) (within : end ≤ length xs) where
    pub first_stays : take second xs ≡ take first xs ++ take (second - first) (drop first xs)
    first_stays =
        let up : second ≡ first + (second - first) = omega arith in
        ap (λ k. take k xs) up ∙ take-add first (second - first) xs

    second_there : end - second ≤ length (drop second xs)
    second_there = omega (arith, length-drop second xs)

    pub second_moved : take (first + (end - second)) (paste xs first (drop second xs) (end - second)) ≡ take first xs ++ take (end - second) (drop second xs)
    second_moved = take-paste xs first (drop second xs) (end - second) (omega arith) second_there

    pub moved_beyond : drop end (paste xs first (drop second xs) (end - second)) ≡ drop end xs
    moved_beyond = drop_later (paste xs first (drop second xs) (end - second)) xs (first + (end - second)) end (omega arith) (drop-paste xs first (drop second xs) (end - second) (omega arith) second_there)

-- one of two parts, moved down, ends no later
pub kept_ends : (keep_first : Bool) (first second end : ℕ) → first ≤ second → second ≤ end → first + cond keep_first (second - first) (end - second) ≤ end
kept_ends true first second end rising ends = omega arith
kept_ends false first second end rising ends = omega arith
