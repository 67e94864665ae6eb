-- What stands in the places of a probed solid's centres that are not in use. Assumes nothing.
use Rattle.std.specs.Prelude.{ℕ, Bool, true, ◌&&◌, List, [], ◌∷◌, drop, ◌==◌, unsigned_abs}
use Rattle.space.specs.declared.point.Point.{Point}

abbrev pub is_origin : Point → Bool
is_origin c = unsigned_abs c.x == 0 && unsigned_abs c.y == 0 && unsigned_abs c.z == 0

abbrev pub all_origin : List Point → Bool
all_origin [] = true
all_origin (c ∷ rest) = is_origin c && all_origin rest

-- past the first `count`, every centre is the origin
abbrev pub unused_at_origin : ℕ → List Point → Bool
unused_at_origin count centres = all_origin (drop count centres)
