-- What a list has to be to be worked out. Assumes nothing.
use Rattle.std.specs.Prelude.{◌≡◌, ℕ, suc, pred, ◌<◌, ◌≤◌, Bool, true, ◌&&◌, List, [], ◌∷◌, length, None, nat_lt}
use Rattle.tree.specs.Order.{order_fault}
use Rattle.tree.specs.Spell.{Symbol, solid, operator}

-- a symbol names a solid or a joint of the tables, which have this many
abbrev pub named : ℕ → ℕ → Symbol → Bool
named solids joints (solid turned n) = nat_lt n solids
named solids joints (operator op turned n) = nat_lt n joints

abbrev pub all_named : ℕ → ℕ → List Symbol → Bool
all_named solids joints [] = true
all_named solids joints (s ∷ rest) = named solids joints s && all_named solids joints rest

-- a list over tables of this many solids and joints that can be worked out
pub record Evaluable (solids joints : ℕ) (l : List Symbol) : Type 0 where
  pub within : all_named solids joints l ≡ true
  pub ordered : order_fault 0 0 l ≡ None
  pub short : length l ≤ 1023

-- with w values waiting, a symbol can be worked out: a solid finds room, an operator its operands
abbrev pub Ready : Symbol → ℕ → Type 0
Ready (solid turned n) w = w < 64
Ready (operator op turned n) w = 2 ≤ w

-- how many values wait after it
abbrev pub counted : Symbol → ℕ → ℕ
counted (solid turned n) w = suc w
counted (operator op turned n) w = pred w
