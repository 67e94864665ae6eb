-- Cubes of space: the whole cube, its children, theirs, and so on down to single points. Assumes nothing.
use Rattle.std.specs.Prelude.{◌≡◌, ℕ, suc, ◌+◌, ◌*◌, ◌/◌, ◌%◌, Bool, true, ◌&&◌, [], ◌∷◌, ℤ, pos, negsuc, ◌+ℤ◌, ◌-ℤ◌, int_le, int_lt, slice_index, unsigned_abs}
use Rattle.space.specs.Pt.{Pt}

-- The side of a level's cubes, and how far the points of such a cube are from its centre at most, rounded up. There
-- are the levels 0 to 7; past them both tables give 0. Nothing is cut down for level 0: its radius is there so that
-- one law holds at every level.
unfoldable pub side : ℕ → ℕ
side l = slice_index (16384 ∷ 4096 ∷ 1024 ∷ 256 ∷ 64 ∷ 16 ∷ 4 ∷ 1 ∷ []) l

unfoldable pub radius : ℕ → ℕ
radius l = slice_index (14189 ∷ 3548 ∷ 887 ∷ 222 ∷ 56 ∷ 14 ∷ 4 ∷ 0 ∷ []) l

pub record Cube : Type 0 where
  pub level : ℕ
  pub low : Pt

abbrev pub whole_cube : Cube
whole_cube = record { level = 0; low = record { x = negsuc 8191; y = negsuc 8191; z = negsuc 8191 } }

-- on one axis: the centre of a span, and the low end of its part with this place, 0 to 3, where a part has side s
abbrev pub middle : ℕ → ℤ → ℤ
middle s low = low +ℤ pos (s / 2)

abbrev pub part : ℕ → ℕ → ℤ → ℤ
part s place low = low +ℤ pos (place * s)

-- the low corner plus half the side, rounded down
abbrev pub centre : Cube → Pt
centre c =
    let s = side c.level in
    record { x = middle s c.low.x; y = middle s c.low.y; z = middle s c.low.z }

-- the child with a number: first + 4·second + 16·third place
abbrev pub child : Cube → ℕ → Cube
child c n =
    let s = side (suc c.level) in
    record { level = suc c.level; low = record { x = part s (n % 4) c.low.x; y = part s (n / 4 % 4) c.low.y; z = part s (n / 16) c.low.z } }

-- whether a cube has a point: each coordinate is from the low corner's up to less than a side above it
abbrev pub spans : ℕ → ℤ → ℤ → Bool
spans s low a = int_le low a && int_lt a (low +ℤ pos s)

abbrev pub has : Cube → Pt → Bool
has c p =
    let s = side c.level in
    spans s c.low.x p.x && (spans s c.low.y p.y && spans s c.low.z p.z)

abbrev pub In : Cube → Pt → Type 0
In c p = has c p ≡ true

-- the number of the child that has a point of the cube
abbrev pub place_toward : ℕ → ℤ → ℤ → ℕ
place_toward s low a = unsigned_abs (a -ℤ low) / s

abbrev pub child_toward : Cube → Pt → ℕ
child_toward c p =
    let s = side (suc c.level) in
    place_toward s c.low.x p.x + 4 * place_toward s c.low.y p.y + 16 * place_toward s c.low.z p.z
