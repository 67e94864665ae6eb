-- A part of a list by its elements. Assumes nothing.
use Rattle.std.specs.Prelude.{ℕ, zero, suc, List, [], ◌∷◌, slice_index}

-- n elements, from place i on
abbrev pub elements : ℕ → ℕ → List ℕ → List ℕ
elements i zero xs = []
elements i (suc n) xs = slice_index xs i ∷ elements (suc i) n xs
