-- What the methods compute over bits, read as whole numbers. Assumes nothing.
use Rattle.std.proofs.Common.{◌≡◌, ℕ, suc, ◌+◌, ◌*◌, ◌/◌, ◌%◌, ◌<◌, ◌≤◌, Bool, true, false, ◌&&◌, ltb, ℤ, pos, ◌+ℤ◌, ◌-ℤ◌, nat_abs, Some, None, sym, ap, ◌∙◌, subst, ap₂, mul-le-mul_right, suc-mul, add-one, arith, w16, to_z, of_z}
use Rattle.space.specs.At.{at}
use Rattle.space.specs.Pt.{InRange, InSpace}
use Rattle.space.specs.declared.point.Point.{Point}
use Rattle.std.proofs.lemmas.Int.{ints}
use Rattle.std.proofs.lemmas.Bool.{lt-ltb, le-ltb, and_from, and_left, and_right, cond-true, cond-false}
use Rattle.cells.specs.Cell.{cube, child_outcome, toward_outcome}
use Rattle.cells.specs.CellLaw.{HeldBySpace, Inside}
use Rattle.cells.specs.Cells.{side, middle, part, spans, has, place_toward}
use Rattle.cells.specs.declared.cell.Cell.{Cell}
use Rattle.cells.proofs.Cubes.{Boxed, boxed, few_first, few_second, few_third}
use Rattle.cells.proofs.Levels.{sides_law, side_some}
use Rattle.cells.proofs.Spans.{Spanned, part_held}

abbrev read_16 : ℤ → ℤ
read_16 z = to_z w16 (of_z w16 z)

-- a centre, of a span with the side s
module _ (s r : ℕ) (low : ℤ) (some : 0 < s) (held : HeldBySpace s low) (e : r ≡ s) where
  pub middle_read : read_16 (read_16 low +ℤ to_z w16 (r / 2)) ≡ middle s low
  middle_read = omega (arith, ints)

-- a part's low end
module _ (s k : ℕ) (low : ℤ) (few : k < 4) (held : HeldBySpace (4 * s) low) where
  pub part_short : k * s + s ≤ 4 * s
  part_short = let le = mul-le-mul_right s few in omega (arith, suc-mul k s)

-- ---- the children of a cell with level l, on one axis: s is the side of a child

module _ (l s : ℕ) (low : ℤ) (lt : l < 7) (held : HeldBySpace (side l) low) (e : s ≡ side (suc l)) where
  pub four_held : HeldBySpace (4 * s) (read_16 low)
  four_held = let sides = sides_law l lt in (omega (arith, ints), omega (arith, ints))

  -- the low end r of the part k
  module _ (k : ℕ) (r : ℤ) (few : k < 4) (is : r ≡ part s k (read_16 low)) where
    pub end_read : read_16 r ≡ part (side (suc l)) k low
    end_read =
        let sides = sides_law l lt in
        let four : HeldBySpace (4 * s) low = (omega (arith, ints), omega (arith, ints)) in
        let short = part_short s k low few four in
        ended (k * s) short is ∙ ap (λ m. low +ℤ pos (k * m)) e
      where
        ended : (n : ℕ) → n + s ≤ 4 * s → r ≡ read_16 low +ℤ pos n → read_16 r ≡ low +ℤ pos n
        ended n short is = let sides = sides_law l lt in omega (arith, ints)

    pub end_held : HeldBySpace (side (l + 1)) (read_16 r)
    end_held =
        let four : HeldBySpace (4 * side (suc l)) low = subst (λ m. HeldBySpace m low) (sides_law l lt) held in
        subst (λ m. HeldBySpace (side m) (read_16 r)) (sym (add-one l)) (subst (HeldBySpace (side (suc l))) (sym end_read) (part_held (side (suc l)) k low few four))

    pub end_range : InRange (read_16 r)
    end_range = let h = end_held in let some = side_some (l + 1) (omega arith) in (omega (arith, ints), omega (arith, ints))

-- ---- the part that has a coordinate

-- a point of the cell, on one axis
module _ (l s : ℕ) (low a : ℤ) (lt : l < 7) (held : HeldBySpace (side l) low) (e : s ≡ side (suc l)) (h : Spanned (side l) low a) where
  pub extent_some : 0 < s
  extent_some = let some = side_some (suc l) lt in omega arith

  pub extent_short : nat_abs (read_16 a -ℤ read_16 low) < 4 * s
  extent_short = let sides = sides_law l lt in omega (arith, ints)

  pub toward_read : place_toward s (read_16 low) (read_16 a) ≡ place_toward (side (suc l)) low a
  toward_read =
      let off : nat_abs (read_16 a -ℤ read_16 low) ≡ nat_abs (a -ℤ low) = omega (arith, ints, sides_law l lt) in
      ap₂ (λ m d. m / d) off e

-- ---- whether a cell has a point

-- the answer r for one axis, of a span with the side s
pub spans_read : (s e : ℕ) (low a : ℤ) (r : Bool) → e ≡ s → InRange low → InRange a → r ≡ spans e (read_16 low) (read_16 a) → r ≡ spans s low a
spans_read s e low a r same low_in a_in is =
    let low_back : read_16 low ≡ low = omega (arith, ints) in
    let a_back : read_16 a ≡ a = omega (arith, ints) in
    is ∙ (λ i. spans (same i) (low_back i) (a_back i))

-- the answers x, y and z for the three axes
module _ (s : Cell) (p : Point) (e : ℕ) (x y z : Bool) (same : e ≡ side s.level) (x_is : x ≡ spans e (read_16 s.low.x) (read_16 p.x)) (y_is : y ≡ spans e (read_16 s.low.y) (read_16 p.y)) (z_is : z ≡ spans e (read_16 s.low.z) (read_16 p.z)) where
  pub has_read : has (cube s) (at p) ≡ (x && (y && z))
  has_read =
      let l = side s.level in
      sym (λ i.
      spans_read l e s.low.x p.x x same s.low.x_in p.x_in x_is i
      && (spans_read l e s.low.y p.y y same s.low.y_in p.y_in y_is i
      && spans_read l e s.low.z p.z z same s.low.z_in p.z_in z_is i))

-- ---- the child with the number n of a cell; e is its side, and x, y and z its low ends

module _ (s : Cell) (n e : ℕ) (x y z : ℤ) (few : n < 64) (lt : s.level < 7) (same : e ≡ side (suc s.level)) (x_is : x ≡ part e (n % 4) (read_16 s.low.x)) (y_is : y ≡ part e (n / 4 % 4) (read_16 s.low.y)) (z_is : z ≡ part e (n / 16) (read_16 s.low.z)) where
  pub child_ranges : InSpace (record { x = read_16 x; y = read_16 y; z = read_16 z })
  child_ranges = record {
    x_in = end_range s.level e _ lt s.x_in same _ x (few_first n) x_is;
    y_in = end_range s.level e _ lt s.y_in same _ y (few_second n) y_is;
    z_in = end_range s.level e _ lt s.z_in same _ z (few_third n few) z_is;
  }

  pub child_held : Inside (record { level = s.level + 1; low = record { x = read_16 x; y = read_16 y; z = read_16 z } })
  child_held = record {
    level_in = omega arith;
    x_in = end_held s.level e _ lt s.x_in same _ x (few_first n) x_is;
    y_in = end_held s.level e _ lt s.y_in same _ y (few_second n) y_is;
    z_in = end_held s.level e _ lt s.z_in same _ z (few_third n few) z_is;
  }

  pub child_read : Some (record { level = s.level + 1; low = record { x = read_16 x; y = read_16 y; z = read_16 z } }) ≡ child_outcome (cube s) n
  child_read =
      rw (lt-ltb n 64 few, lt-ltb s.level 7 lt)
      (λ i.
      Some (record {
        level = add-one s.level i;
        low = record {
          x = end_read s.level e _ lt s.x_in same _ x (few_first n) x_is i;
          y = end_read s.level e _ lt s.y_in same _ y (few_second n) y_is i;
          z = end_read s.level e _ lt s.z_in same _ z (few_third n few) z_is i;
        };
      }))

-- ---- the child toward a point of the cell; e is its side, and i, j and k the places

module _ (s : Cell) (p : Point) (e : ℕ) (lt : s.level < 7) (in_cell : true ≡ has (cube s) (at p)) (same : e ≡ side (suc s.level)) where
  in_box_read : Boxed (side s.level) (at s.low) (at p)
  in_box_read = boxed (cube s) (at p) (sym in_cell)

  pub toward_x : (0 < e) × (nat_abs (read_16 p.x -ℤ read_16 s.low.x) < 4 * e)
  toward_x = let h = in_box_read.along_x in (extent_some s.level e _ _ lt s.x_in same h, extent_short s.level e _ _ lt s.x_in same h)

  pub toward_y : (0 < e) × (nat_abs (read_16 p.y -ℤ read_16 s.low.y) < 4 * e)
  toward_y = let h = in_box_read.along_y in (extent_some s.level e _ _ lt s.y_in same h, extent_short s.level e _ _ lt s.y_in same h)

  pub toward_z : (0 < e) × (nat_abs (read_16 p.z -ℤ read_16 s.low.z) < 4 * e)
  toward_z = let h = in_box_read.along_z in (extent_some s.level e _ _ lt s.z_in same h, extent_short s.level e _ _ lt s.z_in same h)

  pub toward_is : (i j k : ℕ) → i ≡ place_toward e (read_16 s.low.x) (read_16 p.x) → j ≡ place_toward e (read_16 s.low.y) (read_16 p.y) → k ≡ place_toward e (read_16 s.low.z) (read_16 p.z) → Some (i + 4 * j + 16 * k) ≡ toward_outcome (cube s) (at p)
  toward_is i j k i_is j_is k_is =
      let x = i_is ∙ toward_read s.level e _ _ lt s.x_in same in_box_read.along_x in
      let y = j_is ∙ toward_read s.level e _ _ lt s.y_in same in_box_read.along_y in
      let z = k_is ∙ toward_read s.level e _ _ lt s.z_in same in_box_read.along_z in
      (λ t. Some (x t + 4 * y t + 16 * z t))
      ∙ sym (cond-true (ltb s.level 7 && has (cube s) (at p)) _ _ (and_from (ltb s.level 7) (has (cube s) (at p)) (lt-ltb s.level 7 lt) (sym in_cell)))

-- no child has the point where the cell is of the last level, or has it not
pub no_child : (s : Cell) (p : Point) → 7 ≤ s.level → None ≡ toward_outcome (cube s) (at p)
no_child s p le = sym (cond-false (ltb s.level 7 && has (cube s) (at p)) _ _ (and_left (ltb s.level 7) (has (cube s) (at p)) (le-ltb s.level 7 le)))

pub no_point : (s : Cell) (p : Point) → has (cube s) (at p) ≡ false → None ≡ toward_outcome (cube s) (at p)
no_point s p out = sym (cond-false (ltb s.level 7 && has (cube s) (at p)) _ _ (and_right (ltb s.level 7) (has (cube s) (at p)) out))
