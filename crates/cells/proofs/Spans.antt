-- Spans on one axis: their points, centres and parts. Assumes nothing.
use Rattle.std.proofs.Common.{◌≡◌, ℕ, ◌+◌, ◌*◌, ◌/◌, ◌<◌, ◌≤◌, Bool, true, false, T, ℤ, pos, negsuc, ◌+ℤ◌, ◌-ℤ◌, nat_abs, ◌≤ℤ◌, ◌<ℤ◌, sym, refl, ⊎_elim, mul-le-mul_right, suc-mul, div-mul-le_self, arith}
use native.Mathlib.Nat.{lt-div-mul-add, div-eq_of_lt-le}
use lib.Signed.{le_z, lt_z, le_z_yes, lt_z_yes}
use Rattle.space.specs.Pt.{InRange}
use Rattle.std.proofs.lemmas.Int.{ints}
use Rattle.std.proofs.lemmas.Bool.{and_parts, and_from, cases_lt}
use Rattle.cells.specs.CellLaw.{HeldBySpace}
use Rattle.cells.specs.Cells.{middle, part, spans, place_toward}

is_true : (b : Bool) → T b → b ≡ true
is_true true t = refl
is_true false t = absurd t

-- a coordinate of a span
pub record Spanned (s : ℕ) (low a : ℤ) : Type 0 where
  pub from : low ≤ℤ a
  pub to : a <ℤ (low +ℤ pos s)

pub spanned : (s : ℕ) (low a : ℤ) → spans s low a ≡ true → Spanned s low a
spanned s low a e =
    let h = and_parts (le_z low a) (lt_z a (low +ℤ pos s)) e in
    record { from = le_z_yes (rw h.0 tt); to = lt_z_yes (rw h.1 tt) }

pub in_span : (s : ℕ) (low a : ℤ) → Spanned s low a → spans s low a ≡ true
in_span s low a h = and_from (le_z low a) (lt_z a (low +ℤ pos s)) (is_true _ h.from.le) (is_true _ h.to.lt)

-- ---- in space

pub span_point : (s : ℕ) (low a : ℤ) → HeldBySpace s low → Spanned s low a → InRange a
span_point s low a held h = (omega (arith, ints), omega (arith, ints))

pub space_span : (a : ℤ) → InRange a → Spanned 16384 (negsuc 8191) a
space_span a h = record { from = omega (arith, ints); to = omega (arith, ints) }

-- ---- the centre

pub middle_in : (s : ℕ) (low : ℤ) → 0 < s → Spanned s low (middle s low)
middle_in s low some = record { from = omega (arith, ints); to = omega (arith, ints) }

pub low_in : (s : ℕ) (low : ℤ) → 0 < s → Spanned s low low
low_in s low some = record { from = omega (arith, ints); to = omega (arith, ints) }

pub near_middle : (s : ℕ) (low a : ℤ) → Spanned s low a → nat_abs (middle s low -ℤ a) ≤ s / 2
near_middle s low a h = omega (arith, ints)

pub low_middle : (s : ℕ) (low : ℤ) → nat_abs (middle s low -ℤ low) ≡ s / 2
low_middle s low = omega (arith, ints)

-- ---- the four parts of a span

-- the place of the part that has the coordinate
module _ (s : ℕ) (low a : ℤ) (h : Spanned (4 * s) low a) where
  pub part_few : place_toward s low a < 4
  part_few =
      let le = div-mul-le_self (nat_abs (a -ℤ low)) s in
      ⊎_elim (λ lt. lt)
      (λ four. let k = mul-le-mul_right s four in absurd (let f : ⊥ = omega (arith, ints) in f))
      (cases_lt (place_toward s low a) 4)

  pub part_has : Spanned s (part s (place_toward s low a) low) a
  part_has =
      let some : 0 < s = omega (arith, ints) in
      let le = div-mul-le_self (nat_abs (a -ℤ low)) s in
      let lt = lt-div-mul-add {a = nat_abs (a -ℤ low)} some in
      between (nat_abs (a -ℤ low)) (nat_abs (a -ℤ low) / s * s) refl le lt
    where
      between : (m n : ℕ) → nat_abs (a -ℤ low) ≡ m → n ≤ m → m < n + s → Spanned s (low +ℤ pos n) a
      between m n e le lt = record { from = omega (arith, ints); to = omega (arith, ints) }

module _ (s k : ℕ) (low a : ℤ) (few : k < 4) (h : Spanned s (part s k low) a) where
  pub part_of : Spanned (4 * s) low a
  part_of = let le = mul-le-mul_right s few in up (k * s) (omega (arith, suc-mul k s)) h
    where
      up : (n : ℕ) → n + s ≤ 4 * s → Spanned s (low +ℤ pos n) a → Spanned (4 * s) low a
      up n le g = record { from = omega (arith, ints); to = omega (arith, ints) }

  pub part_one : k ≡ place_toward s low a
  part_one = sym (div-eq_of_lt-le s (least (k * s) h) (omega (arith, most (k * s) h, suc-mul k s)))
    where
      least : (n : ℕ) → Spanned s (low +ℤ pos n) a → n ≤ nat_abs (a -ℤ low)
      least n g = omega (arith, ints)

      most : (n : ℕ) → Spanned s (low +ℤ pos n) a → nat_abs (a -ℤ low) < n + s
      most n g = omega (arith, ints)

pub part_held : (s k : ℕ) (low : ℤ) → k < 4 → HeldBySpace (4 * s) low → HeldBySpace s (part s k low)
part_held s k low few held = let le = mul-le-mul_right s few in down (k * s) (omega (arith, suc-mul k s))
  where
    down : (n : ℕ) → n + s ≤ 4 * s → HeldBySpace s (low +ℤ pos n)
    down n le = (omega (arith, ints), omega (arith, ints))
