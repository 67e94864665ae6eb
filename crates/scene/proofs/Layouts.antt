-- Trees that lie one after another in a free part, and what dropping an operator makes of them. Assumes nothing.
use Rattle.std.proofs.Common.{◌≡◌, ℕ, ◌+◌, ◌-◌, ◌*◌, ◌<◌, ◌≤◌, Bool, true, false, cond, not, ltb, List, [], ◌∷◌, ◌++◌, map, length, get_or, take, drop, ℤ, sym, refl, ap, ◌∙◌, subst, ap₂, append_assoc, arith, length-append, take-take, take_at, drop_at}
use lib.Signed.{lt_z}
use Rattle.space.specs.Pt.{Pt}
use Rattle.std.proofs.lemmas.List.{map-append, take-map, drop-map, drop-take, map_more, map_push, same_from_push}
use Rattle.tree.proofs.Pruning.{turned_by_value}
use Rattle.tree.proofs.Twinning.{turn_length, join_length}
use Rattle.tree.specs.CutStep.{cut_step, pruned_operator}
use Rattle.tree.specs.Parts.{Parts}
use Rattle.tree.specs.Prune.{turned_by, kept, pruned_join}
use Rattle.tree.specs.Rows.{entry_symbol, entry_symbol_of, blend_op}
use Rattle.tree.specs.Spell.{Symbol, solid, operator, spell, spell_all}
use Rattle.tree.specs.Tree.{Op, joined, gap, handed, Tree, leaf, join, value}
use Rattle.tree.specs.Whole.{flipped}
use Rattle.tree.specs.declared.node.Blend as b
use Rattle.tree.specs.declared.node.Blend.{Blend}
use Rattle.tree.specs.declared.node.Entry.{Entry}
use Rattle.tree.specs.declared.node.EntryKind.{EntryKind}
use Rattle.tree.specs.declared.node.EntryKind.TheVariants.{Solid, Operator}
use Rattle.scene.specs.Keeping.{keeps_first, entry_turned_by}
use Rattle.scene.specs.Laid.{blocks, Laid, Stacked}
use Rattle.scene.specs.declared.block.Block.{Block}

-- ---- turning a list's last symbol over turns the tree over

abbrev symbol_turned_by : Bool → Symbol → Symbol
symbol_turned_by by (solid turned n) = solid (flipped by turned) n
symbol_turned_by by (operator op turned n) = operator op (flipped by turned) n

entry_turned : (by : Bool) (k : EntryKind) (turned : Bool) (n : ℕ) → entry_symbol_of k (flipped by turned) n ≡ symbol_turned_by by (entry_symbol_of k turned n)
entry_turned by Solid turned n = refl
entry_turned by (Operator blend) turned n = refl

-- a tree's list, but for its last symbol
record Ended (by : Bool) (t : Tree) : Type 0 where
  before : List Symbol
  last : Symbol
  list : spell t ≡ before ++ last ∷ []
  turned : spell (turned_by by t) ≡ before ++ symbol_turned_by by last ∷ []

ended : (by : Bool) (t : Tree) → Ended by t
unfolding spell
ended true (leaf turned n) = record { before = []; last = solid turned n; list = refl; turned = refl }
ended false (leaf turned n) = record { before = []; last = solid turned n; list = refl; turned = refl }
ended true (join op turned n a b) = record { before = spell a ++ spell b; last = operator op turned n; list = sym (append_assoc (spell a) (spell b) _); turned = sym (append_assoc (spell a) (spell b) _) }
ended false (join op turned n a b) = record { before = spell a ++ spell b; last = operator op turned n; list = sym (append_assoc (spell a) (spell b) _); turned = sym (append_assoc (spell a) (spell b) _) }

-- the front of a free part ends with a tree's list, and its last entry is turned over
turned_front : (by : Bool) (t : Tree) (pre : List Symbol) (was is : List Entry) (n : ℕ) (e : Entry) → 0 < n → n ≤ length was → map entry_symbol (take n was) ≡ pre ++ spell t → take n is ≡ take (n - 1) was ++ entry_turned_by by (get_or was (n - 1) e) ∷ [] → map entry_symbol (take n is) ≡ pre ++ spell (turned_by by t)
turned_front by t pre was is n e some within front changed =
    let x = ended by t in
    let here : n - 1 < length was = omega arith in
    let back : n ≡ n - 1 + 1 = omega arith in
    let last = get_or was (n - 1) e in
    let parted = sym (map_more entry_symbol was (n - 1) e here) ∙ ap (λ k. map entry_symbol (take k was)) (sym back) ∙ front ∙ ap (λ l. pre ++ l) x.list ∙ sym (append_assoc pre x.before (x.last ∷ [])) in
    let same = same_from_push (map entry_symbol (take (n - 1) was)) (pre ++ x.before) (entry_symbol last) x.last parted in
    ap (map entry_symbol) changed
    ∙ map_push entry_symbol (take (n - 1) was) (entry_turned_by by last)
    ∙ ap₂ (λ l s. l ++ s ∷ []) same.0 (entry_turned by last.kind last.turned last.number ∙ ap (symbol_turned_by by) same.1)
    ∙ append_assoc pre x.before _
    ∙ ap (λ l. pre ++ l) (sym x.turned)

-- ---- lengths

turned_length : (by : Bool) (t : Tree) → length (spell (turned_by by t)) ≡ length (spell t)
turned_length true t = turn_length t
turned_length false t = refl

pub some_list : (t : Tree) → 0 < length (spell t)
unfolding spell
some_list (leaf turned n) = omega arith
some_list (join op turned n a b) = omega (arith, join_length op turned n a b)

-- blocks of trees lie one after another
pub blocks_stacked : (P : Parts) (c : Pt) (trees : List Tree) → Stacked (blocks P c trees) (length (spell_all trees))
blocks_stacked P c [] = tt
blocks_stacked P c (t ∷ trees) = (omega (arith, length-append (spell_all trees) (spell t), some_list t), blocks_stacked P c trees)

-- ---- which tree is kept

cond_not : {X : Type 0} (p : Bool) (x y : X) → cond p y x ≡ cond (not p) x y
cond_not true x y = refl
cond_not false x y = refl

kept_is : (blend : Blend) (A B : ℤ) (x y : Tree) → kept (blend_op blend) A B x y ≡ cond (keeps_first (blend_op blend) A B) x y
kept_is b.TheVariants.Union A B x y = refl
kept_is b.TheVariants.Common A B x y = cond_not (lt_z A B) x y

operator_is : (P : Parts) (c : Pt) (R : ℕ) (blend : Blend) (turned : Bool) (m : ℕ) (x y : Tree) → pruned_operator P c R (blend_op blend) turned m x y ≡ pruned_join P c R (blend_op blend) turned m x y
operator_is P c R b.TheVariants.Union turned m x y = refl
operator_is P c R b.TheVariants.Common turned m x y = refl

module _ (P : Parts) (c : Pt) (R : ℕ) (blend : Blend) (turned : Bool) (m : ℕ) (x y : Tree) where
  pub dropped_is : ltb (P.radius m + 2 * R) (gap (value P x c) (value P y c)) ≡ true → pruned_operator P c R (blend_op blend) turned m x y ≡ turned_by turned (cond (keeps_first (blend_op blend) (value P x c) (value P y c)) x y)
  dropped_is out =
      operator_is P c R blend turned m x y
      ∙ ap (λ o. cond o (turned_by turned (kept (blend_op blend) (value P x c) (value P y c) x y)) (join (blend_op blend) turned m x y)) out
      ∙ ap (turned_by turned) (kept_is blend (value P x c) (value P y c) x y)

  pub stayed_is : ltb (P.radius m + 2 * R) (gap (value P x c) (value P y c)) ≡ false → pruned_operator P c R (blend_op blend) turned m x y ≡ join (blend_op blend) turned m x y
  stayed_is stays =
      operator_is P c R blend turned m x y
      ∙ ap (λ o. cond o (turned_by turned (kept (blend_op blend) (value P x c) (value P y c) x y)) (join (blend_op blend) turned m x y)) stays

-- ---- a front of two trees and more

-- a part of a list of rows, read as symbols
part_is : (free : List Entry) (from to : ℕ) (pre l : List Symbol) → from ≤ to → length pre ≡ from → take to (map entry_symbol free) ≡ pre ++ l → map entry_symbol (take (to - from) (drop from free)) ≡ l
part_is free from to pre l rising long front =
    let up : from + (to - from) ≡ to = omega arith in
    sym (take-map entry_symbol (to - from) (drop from free))
    ∙ ap (take (to - from)) (sym (drop-map entry_symbol from free))
    ∙ sym (drop-take from (to - from) (map entry_symbol free))
    ∙ ap (λ k. drop from (take k (map entry_symbol free))) up
    ∙ ap (drop from) front
    ∙ drop_at pre l from long

module _ (P : Parts) (c : Pt) (trees : List Tree) (x y : Tree) (free : List Entry) (n : ℕ) (waiting : List Block) (laid : Laid P c (y ∷ x ∷ trees) free n waiting) where
  second_is : length (spell_all (x ∷ trees)) ≡ length (spell_all trees) + length (spell x)
  second_is = length-append (spell_all trees) (spell x)

  end_is : n ≡ length (spell_all (x ∷ trees)) + length (spell y)
  end_is = laid.many ∙ length-append (spell_all (x ∷ trees)) (spell y)

  front_is : take n (map entry_symbol free) ≡ spell_all (x ∷ trees) ++ spell y
  front_is = take-map entry_symbol n free ∙ laid.front

  -- the front up to the second tree, and up to the first
  two_is : take (length (spell_all (x ∷ trees))) (map entry_symbol free) ≡ spell_all (x ∷ trees)
  two_is =
      sym (take-take (length (spell_all (x ∷ trees))) n (map entry_symbol free) (omega (arith, end_is)))
      ∙ ap (take (length (spell_all (x ∷ trees)))) front_is
      ∙ take_at (spell_all (x ∷ trees)) (spell y) (length (spell_all (x ∷ trees))) refl

  rest_is : map entry_symbol (take (length (spell_all trees)) free) ≡ spell_all trees
  rest_is =
      sym (take-map entry_symbol (length (spell_all trees)) free)
      ∙ sym (take-take (length (spell_all trees)) (length (spell_all (x ∷ trees))) (map entry_symbol free) (omega (arith, second_is)))
      ∙ ap (take (length (spell_all trees))) two_is
      ∙ take_at (spell_all trees) (spell x) (length (spell_all trees)) refl

  -- of the two trees, the one that is kept
  kept_part : (keep_first : Bool) → map entry_symbol (cond keep_first (take (length (spell_all (x ∷ trees)) - length (spell_all trees)) (drop (length (spell_all trees)) free)) (take (n - length (spell_all (x ∷ trees))) (drop (length (spell_all (x ∷ trees))) free))) ≡ spell (cond keep_first x y)
  kept_part true = part_is free (length (spell_all trees)) (length (spell_all (x ∷ trees))) (spell_all trees) (spell x) (omega (arith, second_is)) refl two_is
  kept_part false = part_is free (length (spell_all (x ∷ trees))) n (spell_all (x ∷ trees)) (spell y) (omega (arith, end_is)) refl front_is

  kept_long : (keep_first : Bool) → cond keep_first (length (spell_all (x ∷ trees)) - length (spell_all trees)) (n - length (spell_all (x ∷ trees))) ≡ length (spell (cond keep_first x y))
  kept_long true = omega (arith, second_is)
  kept_long false = omega (arith, end_is)

  cond_value : (keep_first : Bool) → cond keep_first (value P x c) (value P y c) ≡ value P (cond keep_first x y) c
  cond_value true = refl
  cond_value false = refl

  -- an operator drops out: one tree is kept and its last entry is turned with the operator
  dropped_laid : (keep_first by : Bool) (moved is : List Entry) (n' : ℕ) (e : Entry) (waiting' : List Block)
      → n' ≡ length (spell_all trees) + cond keep_first (length (spell_all (x ∷ trees)) - length (spell_all trees)) (n - length (spell_all (x ∷ trees)))
      → n' ≤ length moved
      → take n' moved ≡ take (length (spell_all trees)) free ++ cond keep_first (take (length (spell_all (x ∷ trees)) - length (spell_all trees)) (drop (length (spell_all trees)) free)) (take (n - length (spell_all (x ∷ trees))) (drop (length (spell_all (x ∷ trees))) free))
      → take n' is ≡ take (n' - 1) moved ++ entry_turned_by by (get_or moved (n' - 1) e) ∷ []
      → waiting' ≡ record { value = handed by (cond keep_first (value P x c) (value P y c)); start = length (spell_all trees) } ∷ blocks P c trees
      → Laid P c (turned_by by (cond keep_first x y) ∷ trees) is n' waiting'
  dropped_laid keep_first by moved is n' e waiting' end within kept_front changed wait =
      let t = cond keep_first x y in
      let long : n' ≡ length (spell_all trees) + length (spell t) = end ∙ ap (λ k. length (spell_all trees) + k) (kept_long keep_first) in
      let some : 0 < n' = omega (arith, some_list t) in
      let symbols : map entry_symbol (take n' moved) ≡ spell_all trees ++ spell t = ap (map entry_symbol) kept_front ∙ map-append entry_symbol (take (length (spell_all trees)) free) _ ∙ ap₂ ◌++◌ rest_is (kept_part keep_first) in
      record {
        front = turned_front by t (spell_all trees) moved is n' e some within symbols changed;
        many = long ∙ sym (length-append (spell_all trees) (spell (turned_by by t)) ∙ ap (λ k. length (spell_all trees) + k) (turned_length by t));
        wait = wait ∙ ap (λ (v : ℤ). record { value = v; start = length (spell_all trees) } ∷ blocks P c trees) (ap (handed by) (cond_value keep_first) ∙ sym (turned_by_value P by t c));
      }

  -- an operator stays: its entry comes after both trees
  stayed_laid : (op : Op) (turned : Bool) (m : ℕ) (is : List Entry) (e : Entry) (waiting' : List Block)
      → entry_symbol e ≡ operator op turned m
      → take (n + 1) is ≡ take n free ++ e ∷ []
      → waiting' ≡ record { value = handed turned (joined op (P.fillet m) (value P x c) (value P y c)); start = length (spell_all trees) } ∷ blocks P c trees
      → Laid P c (join op turned m x y ∷ trees) is (n + 1) waiting'
  unfolding spell value
  stayed_laid op turned m is e waiting' symbol after wait = record {
    front =
        ap (map entry_symbol) after
        ∙ map_push entry_symbol (take n free) e
        ∙ ap₂ (λ l s. l ++ s ∷ []) laid.front symbol
        ∙ append_assoc (spell_all trees ++ spell x) (spell y) _
        ∙ append_assoc (spell_all trees) (spell x) _;
    many = omega (arith, end_is, second_is, length-append (spell_all trees) (spell (join op turned m x y)), join_length op turned m x y);
    wait = wait;
  }

-- a solid comes after what waits
pub solid_laid : (P : Parts) (c : Pt) (trees : List Tree) (turned : Bool) (m : ℕ) (free is : List Entry) (n : ℕ) (e : Entry) (waiting waiting' : List Block)
    → Laid P c trees free n waiting
    → entry_symbol e ≡ solid turned m
    → take (n + 1) is ≡ take n free ++ e ∷ []
    → waiting' ≡ record { value = handed turned (P.distance m c); start = n } ∷ waiting
    → Laid P c (leaf turned m ∷ trees) is (n + 1) waiting'
unfolding spell value
solid_laid P c trees turned m free is n e waiting waiting' laid symbol after wait = record {
  front = ap (map entry_symbol) after ∙ map_push entry_symbol (take n free) e ∙ ap₂ (λ l s. l ++ s ∷ []) laid.front symbol;
  many = omega (arith, laid.many, length-append (spell_all trees) (spell (leaf turned m)));
  wait = wait ∙ ap₂ (λ (k : ℕ) w. record { value = handed turned (P.distance m c); start = k } ∷ w) laid.many laid.wait;
}

-- ---- what the code does with the two blocks on top

module _ (P : Parts) (c : Pt) (R : ℕ) (blend : Blend) (turned : Bool) (m : ℕ) (free : List Entry) (n : ℕ) where
  -- an operator drops out: the kept block lies where the first began, and its last entry is turned
  pub record Drops (first second : Block) (left : List Block) (moved is : List Entry) (n' : ℕ) (waiting : List Block) : Type 0 where
    pub out : ltb (P.radius m + 2 * R) (gap first.value second.value) ≡ true
    pub end : n' ≡ first.start + cond (keeps_first (blend_op blend) first.value second.value) (second.start - first.start) (n - second.start)
    pub within : n' ≤ length moved
    pub kept_front : take n' moved ≡ take first.start free ++ cond (keeps_first (blend_op blend) first.value second.value) (take (second.start - first.start) (drop first.start free)) (take (n - second.start) (drop second.start free))
    pub changed : (e : Entry) → take n' is ≡ take (n' - 1) moved ++ entry_turned_by turned (get_or moved (n' - 1) e) ∷ []
    pub wait : waiting ≡ record { value = handed turned (cond (keeps_first (blend_op blend) first.value second.value) first.value second.value); start = first.start } ∷ left

  -- an operator stays: its entry is written behind both
  pub record Stays (e : Entry) (first second : Block) (left : List Block) (is : List Entry) (waiting : List Block) : Type 0 where
    pub in_gap : ltb (P.radius m + 2 * R) (gap first.value second.value) ≡ false
    pub symbol : entry_symbol e ≡ operator (blend_op blend) turned m
    pub after : take (n + 1) is ≡ take n free ++ e ∷ []
    pub wait : waiting ≡ record { value = handed turned (joined (blend_op blend) (P.fillet m) first.value second.value); start = first.start } ∷ left

  abbrev top_block : List Tree → Tree → Block
  top_block trees t = record { value = value P t c; start = length (spell_all trees) }

  -- two blocks wait at least, so two trees do
  two_trees : {X : Type 0} (second first : Block) (left : List Block) (trees : List Tree) → second ∷ first ∷ left ≡ blocks P c trees → ((y x : Tree) (rest : List Tree) → trees ≡ y ∷ x ∷ rest → second ≡ top_block (x ∷ rest) y → first ≡ top_block rest x → left ≡ blocks P c rest → X) → X
  two_trees second first left [] e go = let long = ap length e in absurd (let f : ⊥ = omega (arith, long) in f)
  two_trees second first left (y ∷ []) e go = let long = ap length e in absurd (let f : ⊥ = omega (arith, long) in f)
  two_trees second first left (y ∷ x ∷ rest) e go =
      let second_is : second ≡ top_block (x ∷ rest) y = cc in
      let first_is : first ≡ top_block rest x = cc in
      let left_is : left ≡ blocks P c rest = cc in
      go y x rest refl second_is first_is left_is

  module _ (first second : Block) (left : List Block) (trees : List Tree) (laid : Laid P c trees free n (second ∷ first ∷ left)) where
    pub drops_laid : (moved is : List Entry) (n' : ℕ) (e : Entry) (waiting : List Block) → Drops first second left moved is n' waiting → Laid P c (cut_step P c R (operator (blend_op blend) turned m) trees) is n' waiting
    drops_laid moved is n' e waiting drops =
        two_trees second first left trees laid.wait (λ y x rest trees_are second_is first_is left_is.
        let two = subst (λ ts. Laid P c ts free n (second ∷ first ∷ left)) trees_are laid in
        let d₁ = subst (λ b. Drops first b left moved is n' waiting) second_is drops in
        let d₂ = subst (λ a. Drops a (top_block (x ∷ rest) y) left moved is n' waiting) first_is d₁ in
        let d = subst (λ l. Drops (top_block rest x) (top_block (x ∷ rest) y) l moved is n' waiting) left_is d₂ in
        let keep = keeps_first (blend_op blend) (value P x c) (value P y c) in
        let after = dropped_laid P c rest x y free n (second ∷ first ∷ left) two keep turned moved is n' e waiting d.end d.within d.kept_front (d.changed e) d.wait in
        let tree_is = dropped_is P c R blend turned m x y d.out in
        subst (λ ts. Laid P c (cut_step P c R (operator (blend_op blend) turned m) ts) is n' waiting) (sym trees_are)
        (subst (λ t. Laid P c (t ∷ rest) is n' waiting) (sym tree_is) after))

    pub stays_laid : (e : Entry) (is : List Entry) (waiting : List Block) → Stays e first second left is waiting → Laid P c (cut_step P c R (operator (blend_op blend) turned m) trees) is (n + 1) waiting
    stays_laid e is waiting stays =
        two_trees second first left trees laid.wait (λ y x rest trees_are second_is first_is left_is.
        let two = subst (λ ts. Laid P c ts free n (second ∷ first ∷ left)) trees_are laid in
        let s₁ = subst (λ b. Stays e first b left is waiting) second_is stays in
        let s₂ = subst (λ a. Stays e a (top_block (x ∷ rest) y) left is waiting) first_is s₁ in
        let s = subst (λ l. Stays e (top_block rest x) (top_block (x ∷ rest) y) l is waiting) left_is s₂ in
        let after = stayed_laid P c rest x y free n (second ∷ first ∷ left) two (blend_op blend) turned m is e waiting s.symbol s.after s.wait in
        let tree_is = stayed_is P c R blend turned m x y s.in_gap in
        subst (λ ts. Laid P c (cut_step P c R (operator (blend_op blend) turned m) ts) is (n + 1) waiting) (sym trees_are)
        (subst (λ t. Laid P c (t ∷ rest) is (n + 1) waiting) (sym tree_is) after))
