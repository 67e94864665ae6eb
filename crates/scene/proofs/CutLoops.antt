-- A list cut down up to place i: trees lie in the front of the free part. Assumes nothing.
use Rattle.std.proofs.Common.{◌≡◌, ℕ, suc, ◌+◌, ◌*◌, ◌^◌, ◌<◌, ◌≤◌, true, List, [], ◌∷◌, map, length, take, drop, nat_abs, sym, refl, ap, ◌∙◌, subst, arith}
use base.Fml.{GName}
use Rattle.space.specs.Pt.{Pt, InSpace}
use Rattle.std.specs.List.{AllByRecursion}
use Rattle.tree.proofs.CutRuns.{cut_run, cut_run_tree, cut_small, values}
use Rattle.tree.proofs.Orders.{order_law}
use Rattle.tree.proofs.Sizes.{Small}
use Rattle.tree.specs.CutStep.{cut_step}
use Rattle.tree.specs.Parts.{Parts, Lawful}
use Rattle.tree.specs.Prune.{prune}
use Rattle.tree.specs.Rows.{entry_symbol}
use Rattle.tree.specs.Spell.{Symbol}
use Rattle.tree.specs.Tree.{Tree, value}
use Rattle.tree.specs.declared.node.Entry.{Entry}
use Rattle.scene.specs.Laid.{blocks, Laid, Stacked, Steps, GrownByOne}
use Rattle.scene.specs.Lists.{named, Evaluable, Ready, counted}
use Rattle.scene.specs.Pruned.{CutDown, RestKept}
use Rattle.scene.specs.declared.block.Block.{Block}
use Rattle.scene.specs.declared.cut.Cut.{Cut}
use Rattle.scene.specs.declared.pruned.Pruned.{Pruned}
use Rattle.scene.proofs.Freeing.{drop_later}
use Rattle.scene.proofs.Layouts.{blocks_stacked}
use Rattle.scene.proofs.Loops.{Midway, at_start, at_finish, is_named, is_ready, next}

blocks_small : (P : Parts) (c : Pt) (m k : ℕ) → m ≤ k → (trees : List Tree) → Small m (values P c trees) → AllByRecursion (λ b. nat_abs b.value ≤ k) (blocks P c trees)
blocks_small P c m k up [] small = tt
blocks_small P c m k up (t ∷ trees) small = (omega (arith, small.0), blocks_small P c m k up trees small.1)

one_tree : (P : Parts) (c : Pt) (last : Block) (left : List Block) (t : Tree) → last ∷ left ≡ blocks P c (t ∷ []) → last.value ≡ value P t c
one_tree P c last left t e = let same : last ≡ record { value = value P t c; start = 0 } = cc in ap (λ (b : Block). b.value) same

module _ (P : Parts) (c : Pt) (R solids joints : ℕ) (list was : List Entry) (part : GName) where
  pub record Halfway (i : ℕ) (cut : Cut) : Type 0 where
    pub trees : List Tree
    pub mid : Midway (cut_step P c R) (values P c) [] solids joints (map entry_symbol list) i trees (length cut.waiting)
    pub laid : Laid P c trees cut.free.now cut.written cut.waiting
    pub few : cut.written ≤ i
    pub same_part : cut.free.ghost_name ≡ part
    pub long : length cut.free.now ≡ length was
    pub beyond : drop (length list) cut.free.now ≡ drop (length list) was

  pub begins : Evaluable solids joints (map entry_symbol list) → (cut : Cut) → cut.free.now ≡ was → cut.free.ghost_name ≡ part → cut.written ≡ 0 → cut.waiting ≡ [] → Halfway 0 cut
  begins e cut at_first here none empty = record {
    trees = [];
    mid =
        subst (λ w. Midway (cut_step P c R) (values P c) [] solids joints (map entry_symbol list) 0 [] (length w)) (sym empty)
        (at_start (cut_step P c R) (values P c) [] solids joints (map entry_symbol list) refl e);
    laid = record { front = ap (λ k. map entry_symbol (take k cut.free.now)) none; many = none; wait = empty };
    few = omega (arith, none);
    same_part = here;
    long = ap length at_first;
    beyond = ap (drop (length list)) at_first;
  }

  module _ (i : ℕ) (cut : Cut) (now : Halfway i cut) where
    pub stacked : Stacked cut.waiting cut.written
    stacked = subst (λ b. Stacked b cut.written) (sym now.laid.wait) (subst (Stacked (blocks P c now.trees)) (sym now.laid.many) (blocks_stacked P c now.trees))

    pub small : 32767 + 1024 * i ≤ 2 ^ 30 → AllByRecursion (λ b. nat_abs b.value ≤ 2 ^ 30) cut.waiting
    small limit = subst (AllByRecursion (λ (b : Block). nat_abs b.value ≤ 2 ^ 30)) (sym now.laid.wait) (blocks_small P c (32767 + 1024 * i) (2 ^ 30) limit now.trees now.mid.small)

    -- one entry more
    module _ (s : Symbol) (here : drop i (map entry_symbol list) ≡ s ∷ drop (suc i) (map entry_symbol list)) where
      pub named_here : named solids joints s ≡ true
      named_here = is_named (cut_step P c R) (values P c) [] solids joints (map entry_symbol list) i now.trees (length cut.waiting) s now.mid here

      pub ready_here : Ready s (length cut.waiting)
      ready_here = is_ready (cut_step P c R) (values P c) [] solids joints (map entry_symbol list) i now.trees (length cut.waiting) s now.mid here

      pub goes_on : Lawful P → InSpace c → i < length list → (cut' : Cut) → Steps P c R s cut cut' → length cut'.waiting ≡ counted s (length cut.waiting) → GrownByOne cut cut' → Halfway (suc i) cut'
      goes_on law c_in more cut' laid' count by_one = record {
        trees = cut_step P c R s now.trees;
        mid =
            subst (Midway (cut_step P c R) (values P c) [] solids joints (map entry_symbol list) (suc i) (cut_step P c R s now.trees)) (sym count)
            (next (cut_step P c R) (values P c) [] solids joints (map entry_symbol list) i now.trees (length cut.waiting) s now.mid here (cut_small P law c c_in R s now.trees));
        laid = laid' now.trees now.laid;
        few = omega (arith, now.few, by_one.grown);
        same_part = by_one.same_part ∙ now.same_part;
        long = by_one.len ∙ now.long;
        beyond = drop_later cut'.free.now cut.free.now (cut.written + 1) (length list) (omega (arith, now.few, more)) by_one.beyond ∙ now.beyond;
      }

    -- the whole list
    module _ (done : i ≡ length (map entry_symbol list)) (e : Evaluable solids joints (map entry_symbol list)) where
      pub one_waits : length cut.waiting ≡ 1
      one_waits = (at_finish (cut_step P c R) (values P c) [] solids joints (map entry_symbol list) i now.trees (length cut.waiting) now.mid done).0

      pub finishes : (last : Block) (left : List Block) → cut.waiting ≡ last ∷ left → (r : Pruned) → r.length ≡ cut.written → r.value ≡ last.value → CutDown P c R list cut.free.now r × RestKept list was cut.free.now
      finishes last left top r r_long r_value =
          let found = (order_law (map entry_symbol list)).0 e.ordered in
          let t = found.0 in
          let ran = (at_finish (cut_step P c R) (values P c) [] solids joints (map entry_symbol list) i now.trees (length cut.waiting) now.mid done).1 ∙ ap (λ l. cut_run P c R l []) (sym found.1) ∙ cut_run_tree P c R t in
          let laid = subst (λ ts. Laid P c ts cut.free.now cut.written cut.waiting) ran now.laid in (
            record {
              tree = t;
              spelled = found.1;
              entries = ap (λ k. map entry_symbol (take k cut.free.now)) r_long ∙ laid.front;
              long = r_long ∙ laid.many;
              at_centre = r_value ∙ one_tree P c last left (prune P c R t) (sym top ∙ laid.wait);
            },
            (now.long, now.beyond),
          )
