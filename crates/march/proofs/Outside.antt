-- What comes of seven numbers, from what comes of the first three and the next three. Assumes nothing.
use Rattle.std.proofs.Common.{◌≡◌, ℕ, ◌+◌, ◌<◌, ◌≤◌, Bool, true, false, cond, ℤ, nat_abs, Some, None, Ok, Err, Option, Result, sym, refl, ap, subst, ◌∙◌, arith, w32, SFits, to_z, of_z}
use Rattle.std.proofs.lemmas.Int.{ints, to_z-of_z}
use Rattle.std.specs.Int.{FitsUnsignedBits}
use Rattle.std.specs.Result.{MatchResult, IsErrAnd}
use Rattle.std.proofs.lemmas.Bool.{cond-true, cond-false}
use Rattle.space.specs.At.{in_range, or_refused, pt_outcome}
use Rattle.space.specs.Pt.{Pt}
use Rattle.space.specs.Refusals.{place}
use Rattle.space.specs.declared.refusal.Refusal.{Refusal}
use Rattle.space.specs.declared.refusal.Refusal.TheVariants.{Outside}
use Rattle.march.specs.Motion.{in_margin, margin_or_refused, motion_outcome}

-- the place of the first test of three that fails, the first having place i, else the rest
abbrev three : ℕ → ℕ → ℕ → Bool → Bool → Bool → Option ℕ → Option ℕ
three i j k p q r rest = cond p (cond q (cond r rest (Some k)) (Some j)) (Some i)

never : {X : Type 0} (e : Refusal) (p : Pt) → ◌≡◌ {A = Result Pt Refusal} (Err e) (Ok p) → X
never e p h = let z : ◌≡◌ {A = ℕ} 0 1 = cc in absurd (let f : ⊥ = omega arith in f)

at_place : (e : Refusal) (n : ℕ) → ◌≡◌ {A = Result Pt Refusal} (Err e) (Err (Outside n)) → e ≡ Outside n
at_place e n h = cc

-- refused among the first three
refused : (p q r : Bool) (rest : Option ℕ) (e : Refusal) (at : Pt) → Err e ≡ or_refused (three 1 2 3 p q r None) at → (n : ℕ) × (e ≡ Outside n) × (n ≤ 3) × (three 1 2 3 p q r rest ≡ Some n) × (three 4 5 6 p q r rest ≡ Some (3 + n))
refused true true true rest e at h = never e at h
refused true true false rest e at h = (3, at_place e 3 h, omega arith, refl, refl)
refused true false r rest e at h = (2, at_place e 2 h, omega arith, refl, refl)
refused false q r rest e at h = (1, at_place e 1 h, omega arith, refl, refl)

-- none refused among the first three
passed : (p q r : Bool) (a at : Pt) → Ok a ≡ or_refused (three 1 2 3 p q r None) at → (a ≡ at) × ((i j k : ℕ) (rest : Option ℕ) → three i j k p q r rest ≡ rest)
passed true true true a at h = (cc, λ i j k rest. refl)
passed true true false a at h = never (Outside 3) a (sym h)
passed true false r a at h = never (Outside 2) a (sym h)
passed false q r a at h = never (Outside 1) a (sym h)

-- the outcome of the numbers as they are passed on
pub as_passed : (p : Pt) → SFits w32 p.x → SFits w32 p.y → SFits w32 p.z → pt_outcome (to_z w32 (of_z w32 p.x)) (to_z w32 (of_z w32 p.y)) (to_z w32 (of_z w32 p.z)) ≡ pt_outcome p.x p.y p.z
as_passed p f g h =
    let x = to_z-of_z w32 p.x f in
    let y = to_z-of_z w32 p.y g in
    let z = to_z-of_z w32 p.z h in
    λ i. pt_outcome (x i) (y i) (z i)

-- a margin as it is tested
module _ (m : ℤ) (fits : SFits w32 m) (n : ℕ) where
  abbrev Read : ℤ
  Read = to_z w32 (of_z w32 m)

  pub margin_inside : FitsUnsignedBits 16 Read → n ≡ nat_abs Read → n ≤ 4095 → in_margin m ≡ true
  margin_inside fine is low = inside (rw (to_z-of_z w32 m fits) at fine) (rw (to_z-of_z w32 m fits) at is)
    where
      inside : FitsUnsignedBits 16 m → n ≡ nat_abs m → in_margin m ≡ true
      inside f e = grind (arith, ints)

  pub margin_over : n ≡ nat_abs Read → 4095 < n → in_margin m ≡ false
  margin_over is high = over (rw (to_z-of_z w32 m fits) at is)
    where
      over : n ≡ nat_abs m → in_margin m ≡ false
      over e = grind (arith, ints)

pub margin_misfit : (m : ℤ) → SFits w32 m → (FitsUnsignedBits 16 (to_z w32 (of_z w32 m)) → ⊥) → in_margin m ≡ false
margin_misfit m fits wrong = grind (arith, ints)

-- what `map_err` passes on
pub refused_by : {A E F : Type 0} (P : E → F → Type 0) (r : Result A E) (m : Result A F) (f : F) → MatchResult r (λ x. m ≡ Ok x) (λ e. IsErrAnd m (P e)) → m ≡ Err f → (e : E) × (r ≡ Err e) × P e f
refused_by P (Ok x) (Ok y) f h is = absurd (let z : ◌≡◌ {A = ℕ} 0 1 = cc in let f : ⊥ = omega arith in f)
refused_by P (Ok x) (Err y) f h is = absurd (let z : ◌≡◌ {A = ℕ} 0 1 = cc in let f : ⊥ = omega arith in f)
refused_by P (Err e) (Ok y) f h is = absurd h
refused_by P (Err e) (Err y) f h is = (let same : y ≡ f = cc in (e, refl, subst (P e) same h))

pub kept_by : {A E F : Type 0} (P : E → F → Type 0) (r : Result A E) (m : Result A F) (x : A) → MatchResult r (λ y. m ≡ Ok y) (λ e. IsErrAnd m (P e)) → m ≡ Ok x → r ≡ Ok x
kept_by P (Ok y) m x h is = cc
kept_by P (Err e) (Ok y) x h is = absurd h
kept_by P (Err e) (Err y) x h is = absurd (let z : ◌≡◌ {A = ℕ} 0 1 = cc in let f : ⊥ = omega arith in f)

module _ (a b : Pt) (m : ℤ) where
  -- B's coordinates
  places : Option ℕ
  places = three 4 5 6 (in_range b.x) (in_range b.y) (in_range b.z) None

  pub a_refused : (e : Refusal) → Err e ≡ pt_outcome a.x a.y a.z → Err e ≡ motion_outcome a b m
  unfolding places
  a_refused e h =
      let f = refused (in_range a.x) (in_range a.y) (in_range a.z) places e a h in
      ap Err f.1 ∙ sym (ap (λ o. margin_or_refused o a b m) f.3)

  pub b_place : (e : Refusal) → Err e ≡ pt_outcome b.x b.y b.z → place e ≤ 3
  b_place e h =
      let f = refused (in_range b.x) (in_range b.y) (in_range b.z) None e b h in
      let is = ap place f.1 in
      omega (arith, is, f.2)

  -- with A's coordinates inside
  module _ (p : Pt) (a_fine : Ok p ≡ pt_outcome a.x a.y a.z) where
    only : motion_outcome a b m ≡ margin_or_refused places a b m
    unfolding places
    only = ap (λ o. margin_or_refused o a b m) ((passed (in_range a.x) (in_range a.y) (in_range a.z) p a a_fine).1 1 2 3 places)

    pub b_refused : (e : Refusal) (n : ℕ) → Err e ≡ pt_outcome b.x b.y b.z → n ≡ place e → Err (Outside (3 + n)) ≡ motion_outcome a b m
    unfolding places
    b_refused e n h is =
        let f = refused (in_range b.x) (in_range b.y) (in_range b.z) None e b h in
        ap (λ k. Err (Outside (3 + k))) (is ∙ ap place f.1) ∙ sym (only ∙ ap (λ o. margin_or_refused o a b m) f.4)

    -- with B's too
    module _ (q : Pt) (b_fine : Ok q ≡ pt_outcome b.x b.y b.z) where
      margin_alone : motion_outcome a b m ≡ margin_or_refused None a b m
      unfolding places
      margin_alone = only ∙ ap (λ o. margin_or_refused o a b m) ((passed (in_range b.x) (in_range b.y) (in_range b.z) q b b_fine).1 4 5 6 None)

      pub margin_refused : in_margin m ≡ false → Err (Outside 7) ≡ motion_outcome a b m
      margin_refused e = sym (margin_alone ∙ cond-false (in_margin m) _ _ e)

      pub granted : (n : ℕ) → n ≡ nat_abs m → in_margin m ≡ true → Ok (record { from = p; to = q; margin = n }) ≡ motion_outcome a b m
      granted n is e =
          let pa = (passed (in_range a.x) (in_range a.y) (in_range a.z) p a a_fine).0 in
          let qb = (passed (in_range b.x) (in_range b.y) (in_range b.z) q b b_fine).0 in
          (λ i. Ok (record { from = pa i; to = qb i; margin = is i })) ∙ sym (margin_alone ∙ cond-true (in_margin m) _ _ e)
