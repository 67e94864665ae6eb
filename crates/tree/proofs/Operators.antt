-- Operators are monotone and shift with their operands. Assumes nothing.
use Rattle.std.proofs.Common.{◌≡◌, ℕ, zero, suc, ◌+◌, ◌-◌, ◌≤◌, ℤ, pos, ◌+ℤ◌, ◌-ℤ◌, neg_ℤ, ◌≤ℤ◌, sym, ap, ◌∙◌, ap₂, subst₂, add-zero, add-suc, arith}
use Rattle.space.specs.Laws.{FilletLaw}
use Rattle.std.proofs.lemmas.Int.{ints, clamps, by_lt_z}
use Rattle.std.specs.Int.{int_max, int_min}
use Rattle.tree.specs.Tree.{union, common, joined, gap}

-- from one gap to a wider one the fillet does not rise, and falls by no more than the gaps differ
pub fillet_falls : {k : ℕ} {f : ℕ → ℕ} → FilletLaw k f → (m d : ℕ) → (f (m + d) ≤ f m) × (f m ≤ f (m + d) + d)
fillet_falls {f = f} law m zero = let e = ap f (add-zero m) in omega arith
fillet_falls {f = f} law m (suc d) =
    let so_far = fillet_falls law m d in
    let one = law.falls (m + d) in
    let slow = law.slowly (m + d) in
    let e = ap f (add-suc m d) in
    omega arith

-- the fillets u at gap g and u' at gap g'
pub record Fillets (g u g' u' : ℕ) : Type 0 where
  pub wider : g ≤ g' → (u' ≤ u) × (u ≤ u' + (g' - g))
  pub closer : g' ≤ g → (u ≤ u') × (u' ≤ u + (g - g'))

pub fillets : {k : ℕ} {f : ℕ → ℕ} → FilletLaw k f → (g g' : ℕ) → Fillets g (f g) g' (f g')
fillets {f = f} law g g' = record {
  wider = λ le. let h = fillet_falls law g (g' - g) in let e = ap f (there g g' le) in omega arith;
  closer = λ le. let h = fillet_falls law g' (g - g') in let e = ap f (there g' g le) in omega arith;
}
  where
    there : (m n : ℕ) → m ≤ n → m + (n - m) ≡ n
    there m n le = omega arith

-- the lesser less the fillet, where only the first operand rises: below, at and above the second
below : (a a' b : ℤ) (u u' : ℕ) → Fillets (gap a b) u (gap a' b) u' → a ≤ℤ a' → a' ≤ℤ b → (int_min a b -ℤ pos u) ≤ℤ (int_min a' b -ℤ pos u')
below a a' b u u' h le under =
    let closer : gap a' b ≤ gap a b = omega (arith, ints) in
    let f = h.closer closer in
    omega (arith, ints, clamps)

above : (a a' b : ℤ) (u u' : ℕ) → Fillets (gap a b) u (gap a' b) u' → a ≤ℤ a' → b ≤ℤ a → (int_min a b -ℤ pos u) ≤ℤ (int_min a' b -ℤ pos u')
above a a' b u u' h le over =
    let wider : gap a b ≤ gap a' b = omega (arith, ints) in
    let f = h.wider wider in
    omega (arith, ints, clamps)

le_trans : (x y z : ℤ) → x ≤ℤ y → y ≤ℤ z → x ≤ℤ z
le_trans x y z h k = omega (arith, ints)

module _ {k : ℕ} {f : ℕ → ℕ} (law : FilletLaw k f) where
  first_rises : (a a' b : ℤ) → a ≤ℤ a' → joined union f a b ≤ℤ joined union f a' b
  first_rises a a' b le =
      by_lt_z a b
      (λ under.
      by_lt_z b a'
      (λ over.
      let b_b : b ≤ℤ b = omega (arith, ints) in
      let a_b : a ≤ℤ b = omega (arith, ints) in
      let b_a' : b ≤ℤ a' = omega (arith, ints) in
      le_trans (joined union f a b) (joined union f b b) (joined union f a' b)
      (below a b b (f (gap a b)) (f (gap b b)) (fillets law (gap a b) (gap b b)) a_b b_b)
      (above b a' b (f (gap b b)) (f (gap a' b)) (fillets law (gap b b) (gap a' b)) b_a' b_b))
      (λ still. below a a' b (f (gap a b)) (f (gap a' b)) (fillets law (gap a b) (gap a' b)) le still))
      (λ over. above a a' b (f (gap a b)) (f (gap a' b)) (fillets law (gap a b) (gap a' b)) le over)

  pub union_turns : (a b : ℤ) → joined union f a b ≡ joined union f b a
  union_turns a b =
      let same : gap a b ≡ gap b a = omega (arith, ints) in
      let least : int_min a b ≡ int_min b a = omega (arith, ints, clamps) in
      ap₂ (λ m g. m -ℤ pos (f g)) least same

  pub union_rises : (a a' b b' : ℤ) → a ≤ℤ a' → b ≤ℤ b' → joined union f a b ≤ℤ joined union f a' b'
  union_rises a a' b b' ha hb =
      le_trans (joined union f a b) (joined union f a' b) (joined union f a' b') (first_rises a a' b ha)
      (subst₂ (λ x y. x ≤ℤ y) (union_turns b a') (union_turns b' a') (first_rises b b' a' hb))

  pub union_shifts : (a b t : ℤ) → joined union f (a +ℤ t) (b +ℤ t) ≡ joined union f a b +ℤ t
  union_shifts a b t =
      let same : gap (a +ℤ t) (b +ℤ t) ≡ gap a b = omega (arith, ints) in
      let least : int_min (a +ℤ t) (b +ℤ t) ≡ int_min a b +ℤ t = omega (arith, ints, clamps) in
      let moved : (m : ℤ) (u : ℕ) → (m +ℤ t) -ℤ pos u ≡ (m -ℤ pos u) +ℤ t = λ m u. omega (arith, ints) in
      ap₂ (λ m g. m -ℤ pos (f g)) least same ∙ moved (int_min a b) (f (gap a b))

  -- a common is a union turned inside out
  pub common_is : (a b : ℤ) → joined common f a b ≡ neg_ℤ (joined union f (neg_ℤ a) (neg_ℤ b))
  common_is a b =
      let same : gap a b ≡ gap (neg_ℤ a) (neg_ℤ b) = omega (arith, ints) in
      let most : int_max a b ≡ neg_ℤ (int_min (neg_ℤ a) (neg_ℤ b)) = omega (arith, ints, clamps) in
      let out : (m : ℤ) (u : ℕ) → neg_ℤ m +ℤ pos u ≡ neg_ℤ (m -ℤ pos u) = λ m u. omega (arith, ints) in
      ap₂ (λ m g. m +ℤ pos (f g)) most same ∙ out (int_min (neg_ℤ a) (neg_ℤ b)) (f (gap (neg_ℤ a) (neg_ℤ b)))

  pub common_rises : (a a' b b' : ℤ) → a ≤ℤ a' → b ≤ℤ b' → joined common f a b ≤ℤ joined common f a' b'
  common_rises a a' b b' ha hb =
      let na : neg_ℤ a' ≤ℤ neg_ℤ a = omega (arith, ints) in
      let nb : neg_ℤ b' ≤ℤ neg_ℤ b = omega (arith, ints) in
      let inside = union_rises (neg_ℤ a') (neg_ℤ a) (neg_ℤ b') (neg_ℤ b) na nb in
      let flip : (x y : ℤ) → x ≤ℤ y → neg_ℤ y ≤ℤ neg_ℤ x = λ x y h. omega (arith, ints) in
      subst₂ (λ x y. x ≤ℤ y) (sym (common_is a b)) (sym (common_is a' b')) (flip _ _ inside)

  pub common_shifts : (a b t : ℤ) → joined common f (a +ℤ t) (b +ℤ t) ≡ joined common f a b +ℤ t
  common_shifts a b t =
      let na : neg_ℤ (a +ℤ t) ≡ neg_ℤ a +ℤ neg_ℤ t = omega (arith, ints) in
      let nb : neg_ℤ (b +ℤ t) ≡ neg_ℤ b +ℤ neg_ℤ t = omega (arith, ints) in
      let out : (m : ℤ) → neg_ℤ (m +ℤ neg_ℤ t) ≡ neg_ℤ m +ℤ t = λ m. omega (arith, ints) in
      common_is (a +ℤ t) (b +ℤ t)
      ∙ ap₂ (λ x y. neg_ℤ (joined union f x y)) na nb
      ∙ ap neg_ℤ (union_shifts (neg_ℤ a) (neg_ℤ b) (neg_ℤ t))
      ∙ out (joined union f (neg_ℤ a) (neg_ℤ b))
      ∙ ap (λ x. x +ℤ t) (sym (common_is a b))
