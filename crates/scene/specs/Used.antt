-- Which solids a list names. Assumes nothing.
use Rattle.std.specs.Prelude.{ℕ, zero, suc, Bool, true, false, ◌&&◌, ◌||◌, List, [], ◌∷◌, ◌==◌}
use Rattle.tree.specs.Spell.{Symbol, solid, operator}

-- whether a symbol names the solid s
abbrev pub names_it : ℕ → Symbol → Bool
names_it s (solid turned n) = n == s
names_it s (operator op turned n) = false

-- whether some symbol does
abbrev pub names : ℕ → List Symbol → Bool
names s [] = false
names s (x ∷ rest) = names_it s x || names s rest

-- whether every solid below a count is named
abbrev pub all_used : ℕ → List Symbol → Bool
all_used zero l = true
all_used (suc s) l = names s l && all_used s l
