-- The least of a list's first elements, and of one more. Assumes nothing.
use Rattle.std.proofs.Common.{◌≡◌, ℕ, zero, suc, ◌+◌, ◌<◌, min, List, [], ◌∷◌, map, length, get_or, take, drop, refl, ap, ◌∙◌, add-one, arith}
use Rattle.std.proofs.lemmas.List.{get_or-take, length-take, length-drop}
use Rattle.std.proofs.lemmas.Grind.{get_or_after_one}
use Rattle.solids.specs.Probed.{least}

module _ {A : Type 0} (f : A → ℕ) (d : A) where
  next : (xs : List A) (i : ℕ) → suc i < length xs → least (map f (take (suc (suc i)) xs)) ≡ min (least (map f (take (suc i) xs))) (f (get_or xs (suc i) d))
  next [] i h = omega arith
  next (x ∷ []) i h = omega arith
  next (x ∷ (y ∷ ys)) zero h = refl
  next (x ∷ (y ∷ ys)) (suc i) h = let ih = next (y ∷ ys) i (omega arith) in omega arith

  pub least_next : (xs : List A) (i : ℕ) → 0 < i → i < length xs → least (map f (take (i + 1) xs)) ≡ min (least (map f (take i xs))) (f (get_or xs i d))
  least_next xs zero p h = omega arith
  least_next xs (suc i) p h = rw (add-one (suc i)) (next xs i h)

-- n elements behind the first
module _ {A : Type 0} (n : ℕ) (xs : List A) where
  pub length_rest : n < length xs → length (take n (drop 1 xs)) ≡ n
  length_rest h = omega (arith, length-take n (drop 1 xs), length-drop 1 xs)

  pub get_or-rest : (i : ℕ) (d : A) → i < n → get_or (take n (drop 1 xs)) i d ≡ get_or xs (i + 1) d
  get_or-rest i d h = get_or-take n (drop 1 xs) i d h ∙ get_or_after_one xs i d ∙ ap (λ k. get_or xs k d) (omega arith)
