-- A list worked out or cut down up to place i: st waits, w values of it. Assumes nothing.
use Rattle.std.proofs.Common.{◌≡◌, ℕ, suc, ◌+◌, ◌*◌, ◌<◌, ◌≤◌, true, List, [], ◌∷◌, map, length, get_or, drop, ℤ, None, sym, refl, ap, ◌∙◌, subst, mul-suc, arith, drop-cons}
use lib.Seq.{drop-length}
use Rattle.std.proofs.lemmas.List.{length-map, get_or-map}
use Rattle.std.proofs.lemmas.Bool.{and_parts}
use Rattle.tree.proofs.Orders.{at_end, at_solid, at_operator}
use Rattle.tree.proofs.Sizes.{Small}
use Rattle.tree.specs.Order.{order_fault}
use Rattle.tree.specs.Spell.{Symbol, solid, operator}
use Rattle.tree.specs.Stepped.{run_by}
use Rattle.scene.specs.Lists.{named, all_named, Evaluable, Ready, counted}

module _ {X : Type 0} (step : Symbol → X → X) (values : X → List ℤ) (start : X) (solids joints : ℕ) (l : List Symbol) where
  pub record Midway (i : ℕ) (st : X) (w : ℕ) : Type 0 where
    pub inside : all_named solids joints (drop i l) ≡ true
    pub fine : order_fault i w (drop i l) ≡ None
    pub ran : run_by step (drop i l) st ≡ run_by step l start
    pub small : Small (32767 + 1024 * i) (values st)

  pub at_start : values start ≡ [] → Evaluable solids joints l → Midway 0 start 0
  at_start none e = record { inside = e.within; fine = e.ordered; ran = refl; small = subst (Small (32767 + 1024 * 0)) (sym none) tt }

  -- the symbol at place i
  module _ (i : ℕ) (st : X) (w : ℕ) (s : Symbol) (now : Midway i st w) (here : drop i l ≡ s ∷ drop (suc i) l) where
    split : (named solids joints s ≡ true) × (all_named solids joints (drop (suc i) l) ≡ true)
    split = and_parts (named solids joints s) (all_named solids joints (drop (suc i) l)) (sym (ap (all_named solids joints) here) ∙ now.inside)

    pub is_named : named solids joints s ≡ true
    is_named = split.0

    counts : (s : Symbol) → order_fault i w (s ∷ drop (suc i) l) ≡ None → Ready s w × (order_fault (suc i) (counted s w) (drop (suc i) l) ≡ None)
    counts (solid turned n) e = at_solid i w turned n _ e
    counts (operator op turned n) e = at_operator i w op turned n _ e

    fine_here : Ready s w × (order_fault (suc i) (counted s w) (drop (suc i) l) ≡ None)
    fine_here = counts s (sym (ap (order_fault i w) here) ∙ now.fine)

    pub is_ready : Ready s w
    is_ready = fine_here.0

    pub next : ((m : ℕ) → 32767 ≤ m → Small m (values st) → Small (m + 1024) (values (step s st))) → Midway (suc i) (step s st) (counted s w)
    next grows = record {
      inside = split.1;
      fine = fine_here.1;
      ran = sym (ap (λ rest. run_by step rest st) here) ∙ now.ran;
      small =
          let more : 32767 + 1024 * i + 1024 ≡ 32767 + 1024 * suc i = omega (arith, mul-suc 1024 i) in
          subst (λ m. Small m (values (step s st))) more (grows (32767 + 1024 * i) (omega arith) now.small);
    }

  -- at the list's end one value waits, and what waits is the list's
  pub at_finish : (i : ℕ) (st : X) (w : ℕ) → Midway i st w → i ≡ length l → (w ≡ 1) × (st ≡ run_by step l start)
  at_finish i st w now done =
      let none : drop i l ≡ [] = ap (λ k. drop k l) done ∙ drop-length l in
      (at_end i w (sym (ap (order_fault i w) none) ∙ now.fine), sym (ap (λ rest. run_by step rest st) none) ∙ now.ran)

-- the symbol of the row at place i
pub symbol_here : {X : Type 0} (f : X → Symbol) (xs : List X) (i : ℕ) (d : X) → i < length xs → drop i (map f xs) ≡ f (get_or xs i d) ∷ drop (suc i) (map f xs)
symbol_here f xs i d within =
    let in_map : i < length (map f xs) = simp length-map within in
    drop-cons (map f xs) i (f d) in_map ∙ ap (λ s. s ∷ drop (suc i) (map f xs)) (get_or-map f xs i d (f d) within)
