-- A node table looked through row by row. Assumes nothing.
use Rattle.std.proofs.Common.{◌⊎◌, inl, inr, ◌≡◌, ℕ, suc, pred, ◌+◌, ◌-◌, ◌<◌, ◌≤◌, true, false, cond, ltb, List, [], ◌∷◌, length, drop, Some, None, Option, sym, refl, ap, ◌∙◌, add-one, arith}
use lib.Seq.{drop-length}
use Rattle.std.proofs.lemmas.Bool.{lt-ltb, le-ltb, ne_eqb}
use Rattle.tree.specs.Order.{order_fault}
use Rattle.tree.specs.Spell.{Symbol, solid, operator, is_solid}

module _ (l : List Symbol) (i : ℕ) (s : Symbol) (here : drop i l ≡ s ∷ drop (suc i) l) where
  -- what is known of the order when symbol i is reached with w values waiting
  module _ (w : ℕ) (o : Option ℕ) (now : order_fault i w (drop i l) ≡ o) where
    at : order_fault i w (s ∷ drop (suc i) l) ≡ o
    at = sym (ap (order_fault i w) here) ∙ now

    solid_way : (s : Symbol) → is_solid s ≡ true → order_fault i w (s ∷ drop (suc i) l) ≡ cond (ltb w 64) (order_fault (suc i) (suc w) (drop (suc i) l)) (Some i)
    unfolding order_fault
    solid_way (solid turned n) e = refl
    solid_way (operator op turned n) e = let z : ◌≡◌ {A = ℕ} 0 1 = cc in absurd (let f : ⊥ = omega arith in f)

    operator_way : (s : Symbol) → is_solid s ≡ false → order_fault i w (s ∷ drop (suc i) l) ≡ cond (ltb w 2) (Some i) (order_fault (suc i) (pred w) (drop (suc i) l))
    unfolding order_fault
    operator_way (operator op turned n) e = refl
    operator_way (solid turned n) e = let z : ◌≡◌ {A = ℕ} 0 1 = cc in absurd (let f : ⊥ = omega arith in f)

    pub solid_over : is_solid s ≡ true → 64 ≤ w → Some i ≡ o
    solid_over kind full = sym (solid_way s kind ∙ ap (λ b. cond b (order_fault (suc i) (suc w) (drop (suc i) l)) (Some i)) (le-ltb w 64 full)) ∙ at

    solid_on : is_solid s ≡ true → w < 64 → order_fault (i + 1) (w + 1) (drop (i + 1) l) ≡ o
    solid_on kind room = rw (add-one, add-one) (sym (solid_way s kind ∙ ap (λ b. cond b (order_fault (suc i) (suc w) (drop (suc i) l)) (Some i)) (lt-ltb w 64 room)) ∙ at)

    pub operator_over : is_solid s ≡ false → w < 2 → Some i ≡ o
    operator_over kind short = sym (operator_way s kind ∙ ap (λ b. cond b (Some i) (order_fault (suc i) (pred w) (drop (suc i) l))) (lt-ltb w 2 short)) ∙ at

    operator_on : is_solid s ≡ false → 2 ≤ w → order_fault (i + 1) (w - 1) (drop (i + 1) l) ≡ o
    operator_on kind both =
        let less : w - 1 ≡ pred w = omega arith in
        rw (add-one, less) (sym (operator_way s kind ∙ ap (λ b. cond b (Some i) (order_fault (suc i) (pred w) (drop (suc i) l))) (le-ltb w 2 both)) ∙ at)

    -- symbol i is behind, and w' values wait
    pub row_on : w ≤ 64 → (w' : ℕ) → ((is_solid s ≡ true) × (w < 64) × (w' ≡ w + 1)) ⊎ ((is_solid s ≡ false) × (2 ≤ w) × (w' ≡ w - 1)) → (order_fault (i + 1) w' (drop (i + 1) l) ≡ o) × (w' ≤ 64)
    row_on few w' (inl (kind, room, is)) = (ap (λ k. order_fault (i + 1) k (drop (i + 1) l)) is ∙ solid_on kind room, omega arith)
    row_on few w' (inr (kind, both, is)) = (ap (λ k. order_fault (i + 1) k (drop (i + 1) l)) is ∙ operator_on kind both, omega arith)

-- at the end of the list
module _ (l : List Symbol) (i : ℕ) (done : i ≡ length l) where
  none_left : drop i l ≡ []
  none_left = ap (λ k. drop k l) done ∙ drop-length l

  pub end_one : (o : Option ℕ) → order_fault i 1 (drop i l) ≡ o → None ≡ o
  unfolding order_fault
  end_one o now = sym (ap (order_fault i 1) none_left) ∙ now

  pub end_other : (w : ℕ) (o : Option ℕ) → order_fault i w (drop i l) ≡ o → (w ≡ 1 → ⊥) → Some (length l) ≡ o
  unfolding order_fault
  end_other w o now other = ap Some (sym done) ∙ sym (ap (order_fault i w) none_left ∙ ap (λ b. cond b None (Some i)) (ne_eqb w 1 other)) ∙ now
