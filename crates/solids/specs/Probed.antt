-- The distance of a probed solid: the least root to a centre in use, less the radius. Assumes nothing.
use Rattle.std.specs.Prelude.{ℕ, min, List, [], ◌∷◌, map, take, ℤ, pos, ◌-ℤ◌}
use Rattle.space.specs.At.{at}
use Rattle.space.specs.Pt.{Pt, apart²}
use Rattle.space.specs.Root.{root}
use Rattle.space.specs.declared.point.Point.{Point}
use Rattle.solids.specs.declared.probed.Probed.{Probed}

-- the least of some numbers; a probed solid has at least one
abbrev pub least : List ℕ → ℕ
least [] = 0
least (n ∷ []) = n
least (n ∷ (m ∷ rest)) = min n (least (m ∷ rest))

abbrev pub roots : Pt → List Point → List ℕ
roots p centres = map (λ c. root (apart² p (at c))) centres

unfoldable pub probed_distance : Probed → Pt → ℤ
probed_distance s p = pos (least (roots p (take s.count s.centres))) -ℤ pos s.radius
