use Rattle.std.proofs.Common.{◌≡◌, ◌+◌, ◌-◌, ◌^◌, ◌≤◌, false, cond, ◌∷◌, ◌++◌, length, take, drop, ℤ, unsigned_abs, sym, ap, ◌∙◌, subst, arith, length-set, drop-set-lt, w32, SFits, to_z, of_z, rules}
use Rattle.std.proofs.lemmas.List.{take_more_set}
use Rattle.std.proofs.lemmas.Int.{to_z-of_z}
use Rattle.space.specs.At.{at}
use Rattle.tree.specs.CutStep.{cut_step}
use Rattle.tree.specs.Parts.{Parts, parts, joint_fillet}
use Rattle.tree.specs.Spell.{operator}
use Rattle.tree.specs.Rows.{entry_symbol, entry_symbol_of, blend_op}
use Rattle.tree.specs.Tree.{handed, joined}
use Rattle.tree.specs.declared.node.EntryKind.TheVariants.{Solid}
use Rattle.std.specs.List.{AllByRecursion}
use Rattle.scene.specs.Keeping.{keeps_first}
use Rattle.scene.specs.declared.block.Block.{Block}
use Rattle.scene.specs.Laid.{Laid, Stacked}
use Rattle.scene.proofs.Freeing.{drop_later, kept_ends}
use Rattle.scene.proofs.Joins.{picked_small}
use Rattle.scene.proofs.Layouts.{drops_laid, stays_laid}
use Rattle.scene.proofs.listing.Listing.cut_operator.Goals as goal

pub handed_up-value-requires : goal.handed_up-value-requires
handed_up-value-requires g c =
    let a = c.pop-a.result in
    let b = c.pop-b.result in
    let wait = c.pop-b.ensures.value ∙ ap (λ w. b ∷ w) c.pop-a.ensures.value in
    let small = subst (AllByRecursion (λ (b : Block). unsigned_abs b.value ≤ 2 ^ 30)) wait c.requires.small in
    let a_fits : SFits w32 a.value = search rules in
    let b_fits : SFits w32 b.value = search rules in
    let fits : SFits w32 c.pick.result = search rules in
    picked_small c.keeps_first-first.result a.value b.value _ (to_z-of_z w32 c.pick.result fits ∙ (simp to_z-of_z at c.pick.ensures)) small.1.0 small.0

pub returns-then-drops_out : goal.returns-then-drops_out
returns-then-drops_out g c =
    let a = c.pop-a.result in
    let b = c.pop-b.result in
    let e = c.args.entry in
    let n = c.args.cut.now.written in
    let was = c.args.cut.now.free.now in
    let moved = c.keep.new.self in
    let is = c.combine.new.self in
    let op = blend_op c.args.blend in
    let P : Parts = parts g.S.Solid.dist g.J.Joint.radius g.J.Joint.fillet c.args.self.now.solids.now c.args.self.now.joints.now in
    let centre = at c.args.around.centre in
    let symbol : entry_symbol e ≡ operator op e.turned e.number = ap (λ k. entry_symbol_of k e.turned e.number) c.requires.kind in
    let wait = c.pop-b.ensures.value ∙ ap (λ w. b ∷ w) c.pop-a.ensures.value in
    let stacked = subst (λ w. Stacked w n) wait c.requires.stacked in
    let a_fits : SFits w32 a.value = search rules in
    let b_fits : SFits w32 b.value = search rules in
    let picked_fits : SFits w32 c.pick.result = search rules in
    let up_fits : SFits w32 c.handed_up-value.result = search rules in
    let which : c.keeps_first-first.result ≡ keeps_first op a.value b.value = simp to_z-of_z at c.keeps_first-first.ensures in
    let rising : a.start ≤ b.start = omega (arith, stacked.1.0) in
    let ends : b.start ≤ n = omega (arith, stacked.0) in
    let shorter : moved.written ≤ n = subst (λ m. m ≤ n) (sym c.keep.ensures.written) (kept_ends c.keeps_first-first.result a.start b.start n rising ends) in
    let picked : c.pick.result ≡ cond (keeps_first op a.value b.value) a.value b.value = simp to_z-of_z at c.pick.ensures ∙ ap (λ k. cond k a.value b.value) which in
    let up : c.handed_up-value.result ≡ handed e.turned (cond (keeps_first op a.value b.value) a.value b.value) = c.handed_up-value.ensures ∙ ap (handed e.turned) (to_z-of_z w32 c.pick.result picked_fits ∙ picked) in
    let put : Block = record { value = to_z w32 (of_z w32 c.handed_up-value.result); start = a.start } in
    let left = c.combine.ensures.waiting ∙ c.keep.ensures.waiting in
    record {
      laid = λ trees laid.
          let two = subst (λ w. Laid P centre trees was n w) wait laid in
          subst (λ k. Laid P centre (cut_step P centre c.args.around.radius (entry_symbol e) trees) is.free.now k c.push.new.self) (sym c.combine.ensures.written)
          (subst (λ s. Laid P centre (cut_step P centre c.args.around.radius s trees) is.free.now moved.written c.push.new.self) (sym symbol)
          (drops_laid P centre c.args.around.radius c.args.blend e.turned e.number was n a b c.pop-a.new.self trees two
          moved.free.now is.free.now moved.written (record { kind = Solid; turned = false; number = 0 }) c.push.new.self
          (record {
            out = sym (simp to_z-of_z at c.drops_out.ensures) ∙ c.if-drops_out.true;
            end = c.keep.ensures.written ∙ ap (λ k. a.start + cond k (b.start - a.start) (n - b.start)) which;
            within = omega (arith, c.keep.ensures.len, shorter, c.requires.room);
            kept_front = c.keep.ensures.front ∙ ap (λ k. take a.start was ++ cond k (take (b.start - a.start) (drop a.start was)) (take (n - b.start) (drop b.start was))) which;
            changed = c.combine.ensures.front;
            wait = c.push.ensures.after ∙ ap (λ w. put ∷ w) left ∙ ap (λ (v : ℤ). record { value = v; start = a.start } ∷ c.pop-a.new.self) (to_z-of_z w32 c.handed_up-value.result up_fits ∙ up);
          })));
      count = omega (arith, c.push.ensures.more, ap length left, c.pop-a.ensures.fewer, c.pop-b.ensures.fewer);
      grown = record {
        grown = omega (arith, c.combine.ensures.written, shorter);
        same_part = c.combine.ensures.same_part ∙ c.keep.ensures.same_part;
        len = c.combine.ensures.len ∙ c.keep.ensures.len;
        beyond =
            drop_later is.free.now moved.free.now moved.written (n + 1) (omega (arith, shorter)) c.combine.ensures.beyond
            ∙ drop_later moved.free.now was n (n + 1) (omega arith) c.keep.ensures.beyond;
      };
    }

pub returns-else-drops_out : goal.returns-else-drops_out
returns-else-drops_out g c =
    let a = c.pop-a.result in
    let b = c.pop-b.result in
    let e = c.args.entry in
    let n = c.args.cut.now.written in
    let was = c.args.cut.now.free.now in
    let is = c.append.new.self in
    let free = c.append.ensures.free in
    let op = blend_op c.args.blend in
    let P : Parts = parts g.S.Solid.dist g.J.Joint.radius g.J.Joint.fillet c.args.self.now.solids.now c.args.self.now.joints.now in
    let centre = at c.args.around.centre in
    let symbol : entry_symbol e ≡ operator op e.turned e.number = ap (λ k. entry_symbol_of k e.turned e.number) c.requires.kind in
    let F = joint_fillet g.J.Joint.fillet c.args.self.now.joints.now e.number in
    let wait = c.pop-b.ensures.value ∙ ap (λ w. b ∷ w) c.pop-a.ensures.value in
    let v = c.handed_up-value-else-drops_out.result in
    let a_fits : SFits w32 a.value = search rules in
    let b_fits : SFits w32 b.value = search rules in
    let raw_fits : SFits w32 c.joined_of-raw.result = search rules in
    let up_fits : SFits w32 v = search rules in
    let joins : c.joined_of-raw.result ≡ joined op F a.value b.value = simp to_z-of_z at c.joined_of-raw.ensures.value in
    let up : v ≡ handed e.turned (joined op F a.value b.value) = c.handed_up-value-else-drops_out.ensures ∙ ap (handed e.turned) (to_z-of_z w32 c.joined_of-raw.result raw_fits ∙ joins) in
    record {
      laid = λ trees laid.
          let two = subst (λ w. Laid P centre trees was n w) wait laid in
          subst (λ k. Laid P centre (cut_step P centre c.args.around.radius (entry_symbol e) trees) is.free.now k is.waiting) (sym c.append.ensures.written)
          (subst (λ s. Laid P centre (cut_step P centre c.args.around.radius s trees) is.free.now (n + 1) is.waiting) (sym symbol)
          (stays_laid P centre c.args.around.radius c.args.blend e.turned e.number was n a b c.pop-a.new.self trees two
          e is.free.now is.waiting
          (record {
            in_gap = sym (simp to_z-of_z at c.drops_out.ensures) ∙ c.if-drops_out.false;
            symbol = symbol;
            after = ap (take (n + 1)) free ∙ take_more_set was n e c.requires.room;
            wait = c.append.ensures.waiting ∙ ap (λ (v : ℤ). record { value = v; start = a.start } ∷ c.pop-a.new.self) (to_z-of_z w32 v up_fits ∙ up);
          })));
      count = omega (arith, ap length c.append.ensures.waiting, c.pop-a.ensures.fewer, c.pop-b.ensures.fewer);
      grown = record {
        grown = omega (arith, c.append.ensures.written);
        same_part = c.append.ensures.same_part;
        len = ap length free ∙ length-set was n e;
        beyond = ap (drop (n + 1)) free ∙ drop-set-lt (n + 1) was n e (omega arith);
      };
    }
