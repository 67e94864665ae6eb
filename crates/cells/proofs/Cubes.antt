-- Cubes keep their laws, axis by axis. Assumes nothing.
use Rattle.std.proofs.Common.{◌≡◌, ℕ, suc, ◌+◌, ◌*◌, ◌/◌, ◌%◌, ◌<◌, ◌≤◌, ◌&&◌, [], ◌∷◌, length, ℤ, negsuc, sym, refl, ap, ◌∙◌, subst, arith}
use Rattle.space.specs.Pt.{Pt, InSpace}
use Rattle.space.proofs.Roots.{square_le}
use Rattle.std.proofs.lemmas.Int.{ints}
use Rattle.std.proofs.lemmas.Bool.{and_parts, and_from}
use Rattle.cells.specs.CellLaw.{HeldBySpace, Inside, PathsLaw, PointsLaw, Reaches, RadiusLaw, ChildrenLaw, WholeCubeLaw, CellLaw}
use Rattle.cells.specs.Cells.{side, radius, Cube, whole_cube, centre, part, child, spans, In, place_toward, child_toward}
use Rattle.cells.specs.Paths.{cube_of}
use Rattle.cells.proofs.Levels.{sides_law, side_some, radius_reaches, radius_least}
use Rattle.cells.proofs.Spans.{Spanned, spanned, in_span, span_point, space_span, middle_in, low_in, near_middle, low_middle, part_few, part_has, part_of, part_one, part_held}

-- a point of a cube with side s, axis by axis
pub record Boxed (s : ℕ) (low p : Pt) : Type 0 where
  pub along_x : Spanned s low.x p.x
  pub along_y : Spanned s low.y p.y
  pub along_z : Spanned s low.z p.z

pub boxed : (c : Cube) (p : Pt) → In c p → Boxed (side c.level) c.low p
boxed c p e =
    let s = side c.level in
    let x = spans s c.low.x p.x in
    let y = spans s c.low.y p.y in
    let z = spans s c.low.z p.z in
    let first = and_parts x (y && z) e in
    let rest = and_parts y z first.1 in
    record { along_x = spanned s _ _ first.0; along_y = spanned s _ _ rest.0; along_z = spanned s _ _ rest.1 }

pub in_box : (c : Cube) (p : Pt) → Boxed (side c.level) c.low p → In c p
in_box c p b =
    let s = side c.level in
    let x = spans s c.low.x p.x in
    let y = spans s c.low.y p.y in
    let z = spans s c.low.z p.z in
    and_from x (y && z) (in_span s _ _ b.along_x) (and_from y z (in_span s _ _ b.along_y) (in_span s _ _ b.along_z))

pub points_law : PointsLaw
points_law c inside = (points (centre c) has_centre, has_centre, points)
  where
    points : (p : Pt) → In c p → InSpace p
    points p e =
        let s = side c.level in
        let b = boxed c p e in
        record { x_in = span_point s _ _ inside.x_in b.along_x; y_in = span_point s _ _ inside.y_in b.along_y; z_in = span_point s _ _ inside.z_in b.along_z }

    has_centre : In c (centre c)
    has_centre =
        let s = side c.level in
        let some = side_some c.level inside.level_in in
        in_box c (centre c) (record { along_x = middle_in s _ some; along_y = middle_in s _ some; along_z = middle_in s _ some })

pub radius_law : RadiusLaw
radius_law c le = (reaches, least)
  where
    reaches : Reaches c (radius c.level)
    reaches p e =
        let s = side c.level in
        let b = boxed c p e in
        omega (
          arith,
          radius_reaches c.level le,
          square_le (near_middle s _ _ b.along_x),
          square_le (near_middle s _ _ b.along_y),
          square_le (near_middle s _ _ b.along_z),
        )

    least : (r : ℕ) → Reaches c r → radius c.level ≤ r
    least r reach =
        let s = side c.level in
        let some = side_some c.level le in
        let corner = reach c.low (in_box c c.low (record { along_x = low_in s _ some; along_y = low_in s _ some; along_z = low_in s _ some })) in
        radius_least c.level r le (rw (low_middle s c.low.x, low_middle s c.low.y, low_middle s c.low.z) at corner)

-- ---- children

-- the three places of a number
pub few_first : (n : ℕ) → n % 4 < 4
few_first n = omega arith

pub few_second : (n : ℕ) → n / 4 % 4 < 4
few_second n = omega arith

pub few_third : (n : ℕ) → n < 64 → n / 16 < 4
few_third n lt = omega arith

module _ (i j k : ℕ) (few_i : i < 4) (few_j : j < 4) (few_k : k < 4) where
  first_place : i ≡ (i + 4 * j + 16 * k) % 4
  first_place = omega arith

  second_place : j ≡ (i + 4 * j + 16 * k) / 4 % 4
  second_place = omega arith

  third_place : k ≡ (i + 4 * j + 16 * k) / 16
  third_place = omega arith

  number_few : i + 4 * j + 16 * k < 64
  number_few = omega arith

of_places : (n : ℕ) → n < 64 → n ≡ n % 4 + 4 * (n / 4 % 4) + 16 * (n / 16)
of_places n lt = omega arith

four_parts : (c : Cube) (p : Pt) → c.level < 7 → Boxed (side c.level) c.low p → Boxed (4 * side (suc c.level)) c.low p
four_parts c p lt b = subst (λ s. Boxed s c.low p) (sides_law c.level lt) b

one_cube : (c : Cube) (p : Pt) → c.level < 7 → Boxed (4 * side (suc c.level)) c.low p → In c p
one_cube c p lt b = in_box c p (subst (λ s. Boxed s c.low p) (sym (sides_law c.level lt)) b)

pub children_law : ChildrenLaw
children_law c lt p = (down, up)
  where
    down : In c p → (child_toward c p < 64) × In (child c (child_toward c p)) p
    down e =
        let s = side (suc c.level) in
        let b = four_parts c p lt (boxed c p e) in
        let i = place_toward s c.low.x p.x in
        let j = place_toward s c.low.y p.y in
        let k = place_toward s c.low.z p.z in
        let few_i = part_few s _ _ b.along_x in
        let few_j = part_few s _ _ b.along_y in
        let few_k = part_few s _ _ b.along_z in
        let at_place : (n place : ℕ) (low a : ℤ) → place ≡ n → Spanned s (part s place low) a → Spanned s (part s n low) a = λ n place low a same h. subst (λ m. Spanned s (part s m low) a) same h in (
          number_few i j k few_i few_j few_k,
          in_box (child c (child_toward c p)) p (record {
            along_x = at_place _ _ _ _ (first_place i j k few_i few_j few_k) (part_has s _ _ b.along_x);
            along_y = at_place _ _ _ _ (second_place i j k few_i few_j few_k) (part_has s _ _ b.along_y);
            along_z = at_place _ _ _ _ (third_place i j k few_i few_j few_k) (part_has s _ _ b.along_z);
          }),
        )

    up : (n : ℕ) → n < 64 → In (child c n) p → In c p × (n ≡ child_toward c p)
    up n few e =
        let s = side (suc c.level) in
        let b = boxed (child c n) p e in
        let few_i = few_first n in
        let few_j = few_second n in
        let few_k = few_third n few in (
          one_cube c p lt (record {
            along_x = part_of s (n % 4) _ _ few_i b.along_x;
            along_y = part_of s (n / 4 % 4) _ _ few_j b.along_y;
            along_z = part_of s (n / 16) _ _ few_k b.along_z;
          }),
          of_places n few
              ∙ (λ t.
              part_one s (n % 4) c.low.x p.x few_i b.along_x t
              + 4 * part_one s (n / 4 % 4) c.low.y p.y few_j b.along_y t
              + 16 * part_one s (n / 16) c.low.z p.z few_k b.along_z t),
        )

-- ---- paths

pub child_inside : (c : Cube) (n : ℕ) → c.level < 7 → n < 64 → Inside c → Inside (child c n)
child_inside c n lt few inside =
    let s = side (suc c.level) in
    let four : (low : ℤ) → HeldBySpace (side c.level) low → HeldBySpace (4 * s) low = λ low h. subst (λ m. HeldBySpace m low) (sides_law c.level lt) h in
    record {
      level_in = lt;
      x_in = part_held s (n % 4) _ (few_first n) (four _ inside.x_in);
      y_in = part_held s (n / 4 % 4) _ (few_second n) (four _ inside.y_in);
      z_in = part_held s (n / 16) _ (few_third n few) (four _ inside.z_in);
    }

pub whole_inside : Inside whole_cube
unfolding side
whole_inside =
    let h : HeldBySpace 16384 (negsuc 8191) = (omega (arith, ints), omega (arith, ints)) in
    record { level_in = omega arith; x_in = h; y_in = h; z_in = h }

pub paths_law : PathsLaw
unfolding cube_of
paths_law [] ok = (refl, whole_inside)
paths_law (n ∷ path) ok =
    let shorter = ok.short in
    let h = paths_law path (record { short = omega arith; numbers = ok.numbers.1 }) in
    let level : (cube_of path).level ≡ length path = h.0 in
    (ap suc level, child_inside (cube_of path) n (omega arith) ok.numbers.0 h.1)

pub whole_cube_law : WholeCubeLaw
unfolding side
whole_cube_law p h = in_box whole_cube p (record { along_x = space_span _ h.x_in; along_y = space_span _ h.y_in; along_z = space_span _ h.z_in })

pub cell_law : CellLaw
cell_law = (sides_law, paths_law, points_law, radius_law, children_law, whole_cube_law)
