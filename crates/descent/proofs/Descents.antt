-- From a pruned list to what the child holds. Assumes nothing.
use Rattle.std.proofs.Common.{◌≡◌, ℕ, ◌≤◌, Bool, true, false, cond, List, map, length, take, ℤ, Some, None, Option, sym, refl, ap, ◌∙◌, subst, arith}
use Rattle.cells.specs.Cells.{Cube, centre, radius}
use Rattle.descent.specs.Descent.{far_mark, Answers, Descends}
use Rattle.descent.specs.declared.child.Child.{Child}
use Rattle.descent.specs.declared.child.Child.TheVariants.{Near, Far}
use Rattle.paths.specs.Held.{near, far, marked}
use Rattle.scene.specs.Pruned.{CutDown}
use Rattle.scene.specs.declared.pruned.Pruned.{Pruned}
use Rattle.space.specs.Pt.{Pt}
use Rattle.std.proofs.lemmas.List.{length-map, length-take}
use Rattle.tree.specs.Far.{is_far, far_constant}
use Rattle.tree.specs.Parts.{Parts}
use Rattle.tree.specs.Prune.{prune}
use Rattle.tree.specs.Rows.{entry_symbol}
use Rattle.tree.specs.Spell.{spell}
use Rattle.tree.specs.Tree.{Tree, value}
use Rattle.tree.specs.declared.node.Entry.{Entry}

-- what answers a mark
abbrev Told : Option ℤ → (length : ℕ) → Child → Type 0
Told (Some c) n (Far v) = v ≡ c
Told (Some c) n (Near m) = ⊥
Told None n (Far v) = ⊥
Told None n (Near m) = m ≡ n

pub told_far : (mark : Option ℤ) (n : ℕ) (c : ℤ) → Some c ≡ mark → Told mark n (Far c)
told_far mark n c e = subst (λ m. Told m n (Far c)) e refl

pub told_near : (mark : Option ℤ) (n : ℕ) → None ≡ mark → Told mark n (Near n)
told_near mark n e = subst (λ m. Told m n (Near n)) e refl

answers : (C R : ℕ) (d : ℤ) (t : Tree) (free : List Entry) (n : ℕ) (r : Child) → map entry_symbol (take n free) ≡ spell t → n ≡ length (spell t) → Told (far_mark C R d) n r → Answers (marked C R d t) free r
answers C R d t free n r list long told = go (is_far C R d) r told
  where
    go : (out : Bool) (r : Child) → Told (cond out (Some (far_constant R d)) None) n r → Answers (cond out (far (far_constant R d)) (near t)) free r
    go true (Far v) e = e
    go true (Near m) e = absurd e
    go false (Far v) e = absurd e
    go false (Near m) e = (ap (λ k. map entry_symbol (take k free)) e ∙ list, e ∙ long)

-- a list that is as long as it says lies in the free part
pub lies_within : (P : Parts) (c : Pt) (R : ℕ) (list free : List Entry) (r : Pruned) → CutDown P c R list free r → r.length ≤ length free
lies_within P c R list free r did =
    let long = sym (length-map (take r.length free) entry_symbol) ∙ ap length did.entries ∙ sym did.long in
    omega (arith, long, length-take r.length free)

pub descends : (P : Parts) (C : ℕ) (child : Cube) (list free : List Entry) (r : Pruned) (got : Child) → CutDown P (centre child) (radius child.level) list free r → Told (far_mark C (radius child.level) r.value) r.length got → Descends P C child list free got
descends P C child list free r got did told =
    let R = radius child.level in
    let t = prune P (centre child) R did.tree in
    record {
      tree = did.tree;
      spelled = did.spelled;
      answers = answers C R (value P t (centre child)) t free r.length got did.entries did.long (subst (λ d. Told (far_mark C R d) r.length got) did.at_centre told);
    }
