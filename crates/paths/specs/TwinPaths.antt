-- Twins along every path. Assumes nothing.
use Rattle.std.specs.Prelude.{◌≡◌, ℕ, List, length}
use Rattle.tree.specs.Parts.{Parts}
use Rattle.tree.specs.Spell.{spell}
use Rattle.tree.specs.Tree.{Tree}
use Rattle.tree.specs.Twins.{Twin}
use Rattle.space.specs.Pt.{Pt}
use Rattle.paths.specs.Held.{Held, near, far, held}
use Rattle.paths.specs.TwinGaps.{gaps_like}

-- both near with twin trees, or both far with one constant
abbrev pub Alike : Held → Held → Type 0
Alike (near t) (near u) = Twin t u
Alike (near t) (far c) = ⊥
Alike (far c) (near t) = ⊥
Alike (far c) (far d) = c ≡ d

-- how many entries the held list has; a far cell has none
abbrev pub entries : Held → ℕ
entries (near t) = length (spell t)
entries (far c) = 0

-- how many operators of what is held have the joint n and, at the point, the gap g
abbrev pub gaps_held : Parts → Pt → (n g : ℕ) → Held → ℕ
gaps_held P p n g (near t) = gaps_like P p n g t
gaps_held P p n g (far c) = 0

-- Whatever the path, twins hold what is alike there: lists of one length, and at every point, so at every centre
-- too, equally many operators of each joint and gap.
abbrev pub TwinsHeld : Type 0
TwinsHeld =
    (P : Parts) (C : ℕ) (t u : Tree) → Twin t u → (path : List ℕ)
    → Alike (held P C t path) (held P C u path)
    × (entries (held P C t path) ≡ entries (held P C u path))
    × ((p : Pt) (n g : ℕ) → gaps_held P p n g (held P C t path) ≡ gaps_held P p n g (held P C u path))
