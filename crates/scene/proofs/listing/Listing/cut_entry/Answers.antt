use Rattle.std.proofs.Common.{◌≡◌, ◌+◌, ◌∷◌, length, take, drop, ℤ, sym, ap, ◌∙◌, subst, arith, length-set, drop-set-lt, w32, SFits, rules}
use Rattle.space.specs.At.{at}
use Rattle.std.proofs.lemmas.List.{take_more_set}
use Rattle.std.proofs.lemmas.Int.{to_z-of_z}
use Rattle.tree.specs.CutStep.{cut_step}
use Rattle.tree.specs.Parts.{Parts, parts}
use Rattle.tree.specs.Rows.{entry_symbol, entry_symbol_of}
use Rattle.tree.specs.Spell.{solid}
use Rattle.tree.specs.Tree.{handed}
use Rattle.scene.specs.Laid.{Laid}
use Rattle.scene.proofs.Layouts.{solid_laid}
use Rattle.scene.proofs.Steps.{solid_count}
use Rattle.scene.proofs.listing.Listing.cut_entry.Goals as goal

pub returns-in-Solid : goal.returns-in-Solid
returns-in-Solid g c =
    let P : Parts = parts g.S.Solid.dist g.J.Joint.radius g.J.Joint.fillet c.args.self.now.solids.now c.args.self.now.joints.now in
    let p = at c.args.around.centre in
    let e = c.args.entry in
    let n = c.args.cut.now.written in
    let was = c.args.cut.now.free.now in
    let raw_fits : SFits w32 c.distance_of-distance.result = search rules in
    let up_fits : SFits w32 c.handed_up-value.result = search rules in
    let symbol : entry_symbol e ≡ solid e.turned e.number = ap (λ k. entry_symbol_of k e.turned e.number) c.in-Solid.is in
    let up : c.handed_up-value.result ≡ handed e.turned (P.distance e.number p) = c.handed_up-value.ensures ∙ ap (handed e.turned) (to_z-of_z w32 c.distance_of-distance.result raw_fits ∙ c.distance_of-distance.ensures.value) in
    let block = c.append.ensures.waiting ∙ ap (λ (v : ℤ). record { value = v; start = n } ∷ c.args.cut.now.waiting) (to_z-of_z w32 c.handed_up-value.result up_fits ∙ up) in
    let is = c.append.new.self in
    let free = c.append.ensures.free in
    record {
      laid = λ trees laid.
          subst (λ k. Laid P p (cut_step P p c.args.around.radius (entry_symbol e) trees) is.free.now k is.waiting) (sym c.append.ensures.written)
          (subst (λ s. Laid P p (cut_step P p c.args.around.radius s trees) is.free.now (n + 1) is.waiting) (sym symbol)
          (solid_laid P p trees e.turned e.number was is.free.now n e c.args.cut.now.waiting is.waiting laid symbol
          (ap (take (n + 1)) free ∙ take_more_set was n e c.requires.room) block));
      count = solid_count e c.args.cut.now.waiting is.waiting _ c.in-Solid.is c.append.ensures.waiting;
      grown = record {
        grown = omega (arith, c.append.ensures.written);
        same_part = c.append.ensures.same_part;
        len = ap length free ∙ length-set was n e;
        beyond = ap (drop (n + 1)) free ∙ drop-set-lt (n + 1) was n e (omega arith);
      };
    }
