-- How large the values that wait can get: 32,767 at first, and at most 1,024 more with each symbol. Assumes nothing.
use Rattle.std.proofs.Common.{◌≡◌, ℕ, ◌+◌, ◌≤◌, Bool, true, false, List, [], ◌∷◌, ℤ, pos, ◌+ℤ◌, ◌-ℤ◌, neg_ℤ, nat_abs, refl, arith}
use Rattle.space.specs.Laws.{FilletLaw}
use Rattle.space.specs.Pt.{Pt, InSpace}
use Rattle.std.proofs.lemmas.Int.{ints, clamps}
use Rattle.std.specs.Int.{int_max, int_min}
use Rattle.std.specs.List.{AllByRecursion}
use Rattle.tree.specs.Parts.{Parts, Lawful}
use Rattle.tree.specs.Spell.{Symbol, solid, operator}
use Rattle.tree.specs.Stepped.{stepped}
use Rattle.tree.specs.Tree.{Op, union, common, cut, handed, joined}

pub handed_size : (turned : Bool) (v : ℤ) → nat_abs (handed turned v) ≡ nat_abs v
handed_size true v = omega (arith, ints)
handed_size false v = refl

lesser_small : (a b : ℤ) (m f : ℕ) → nat_abs a ≤ m → nat_abs b ≤ m → f ≤ 1024 → nat_abs (int_min a b -ℤ pos f) ≤ m + 1024
lesser_small a b m f h k e = omega (arith, ints, clamps)

greater_small : (a b : ℤ) (m f : ℕ) → nat_abs a ≤ m → nat_abs b ≤ m → f ≤ 1024 → nat_abs (int_max a b +ℤ pos f) ≤ m + 1024
greater_small a b m f h k e = omega (arith, ints, clamps)

pub fillet_small : {k : ℕ} {f : ℕ → ℕ} → FilletLaw k f → (g : ℕ) → f g ≤ 1024
fillet_small law g = let h = law.half g in let l = law.limited in omega arith

pub joined_small : (op : Op) (f : ℕ → ℕ) (a b : ℤ) (m : ℕ) → ((g : ℕ) → f g ≤ 1024) → nat_abs a ≤ m → nat_abs b ≤ m → nat_abs (joined op f a b) ≤ m + 1024
joined_small union f a b m few h k = lesser_small a b m _ h k (few _)
joined_small common f a b m few h k = greater_small a b m _ h k (few _)
joined_small cut f a b m few h k = let n : nat_abs (neg_ℤ b) ≤ m = omega (arith, ints) in greater_small a (neg_ℤ b) m _ h n (few _)

abbrev pub Small : ℕ → List ℤ → Type 0
Small m st = AllByRecursion (λ v. nat_abs v ≤ m) st

pub small_up : (m n : ℕ) → m ≤ n → (st : List ℤ) → Small m st → Small n st
small_up m n h [] s = tt
small_up m n h (v ∷ st) s = (omega arith, small_up m n h st s.1)

pub stepped_small : (P : Parts) → Lawful P → (p : Pt) → InSpace p → (s : Symbol) (st : List ℤ) (m : ℕ) → 32767 ≤ m → Small m st → Small (m + 1024) (stepped P p s st)
stepped_small P law p p_in (solid turned n) st m base small =
    let h = law.ranged n p p_in in
    let size = handed_size turned (P.distance n p) in
    (omega arith, small_up m (m + 1024) (omega arith) st small)
stepped_small P law p p_in (operator op turned n) [] m base small = tt
stepped_small P law p p_in (operator op turned n) (b ∷ []) m base small = tt
stepped_small P law p p_in (operator op turned n) (b ∷ a ∷ st) m base small =
    let j = joined op (P.fillet n) a b in
    let h : nat_abs j ≤ m + 1024 = joined_small op (P.fillet n) a b m (fillet_small (law.smooth n)) small.1.0 small.0 in
    let size = handed_size turned j in
    (omega arith, small_up m (m + 1024) (omega arith) st small.1.1)
