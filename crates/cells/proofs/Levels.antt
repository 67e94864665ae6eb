-- What the tables of sides and radii say of each level, by one computed test each. Assumes nothing.
use Rattle.std.proofs.Common.{◌≡◌, ℕ, zero, suc, ◌+◌, ◌-◌, ◌*◌, ◌/◌, ◌<◌, ◌≤◌, Bool, true, ◌&&◌, ◌||◌, eqb, ltb, leb, get_or, refl, sym, subst, ⊎_elim, arith}
use Rattle.space.proofs.Roots.{square_lt_back}
use Rattle.std.proofs.lemmas.Bool.{ltb-true, leb-true, eqb-true, and_parts, or_cases, cases_eq}
use Rattle.cells.specs.CellLaw.{SidesLaw}
use Rattle.std.proofs.Math.ListN.{get_or-map}
use Rattle.cells.specs.Cells.{side, radius}
use Rattle.cells.specs.declared.cells.TheConstants.{LEVELS}
use Rattle.cells.specs.declared.cells.Level.{Level}

-- a test that every number below n passes
abbrev passed : (ℕ → Bool) → ℕ → Bool
passed test zero = true
passed test (suc n) = test n && passed test n

passes : (test : ℕ → Bool) (n : ℕ) → passed test n ≡ true → (l : ℕ) → l < n → test l ≡ true
passes test zero e l lt = absurd (let f : ⊥ = omega arith in f)
passes test (suc n) e l lt =
    let h = and_parts (test n) (passed test n) e in
    ⊎_elim (λ same. subst (λ m. test m ≡ true) same h.0) (λ other. passes test n h.1 l (omega arith)) (cases_eq n l)

pub sides_law : SidesLaw
unfolding side
sides_law l lt = eqb-true (side l) (4 * side (suc l)) (passes (λ m. eqb (side m) (4 * side (suc m))) 7 refl l lt)

pub side_some : (l : ℕ) → l ≤ 7 → 0 < side l
unfolding side
side_some l le = ltb-true 0 (side l) (passes (λ m. ltb 0 (side m)) 8 refl l (omega arith))

-- three times the square of half the side
abbrev pub corner² : ℕ → ℕ
corner² l = let h = side l / 2 in h * h + h * h + h * h

pub radius_reaches : (l : ℕ) → l ≤ 7 → corner² l ≤ radius l * radius l
unfolding side radius
radius_reaches l le = leb-true (corner² l) (radius l * radius l) (passes (λ m. leb (corner² m) (radius m * radius m)) 8 refl l (omega arith))

pub radius_least : (l r : ℕ) → l ≤ 7 → corner² l ≤ r * r → radius l ≤ r
unfolding side radius
radius_least l r le reach =
    let short : ℕ → Bool = λ m. ltb ((radius m - 1) * (radius m - 1)) (corner² m) in
    ⊎_elim
    (λ none. let z = eqb-true (radius l) 0 none in omega arith)
    (λ less.
    let k = ltb-true ((radius l - 1) * (radius l - 1)) (corner² l) less in
    let lt = square_lt_back (radius l - 1) r (omega arith) in
    omega arith)
    (or_cases (eqb (radius l) 0) (short l) (passes (λ m. eqb (radius m) 0 || short m) 8 refl l (omega arith)))

-- ---- the program's table

pub side_listed : (l : ℕ) → (get_or LEVELS l (record { side = 0; radius = 0 })).side ≡ side l
unfolding side
side_listed l = sym (get_or-map (λ (v : Level). v.side) LEVELS l (record { side = 0; radius = 0 }))

pub radius_listed : (l : ℕ) → (get_or LEVELS l (record { side = 0; radius = 0 })).radius ≡ radius l
unfolding radius
radius_listed l = sym (get_or-map (λ (v : Level). v.radius) LEVELS l (record { side = 0; radius = 0 }))
