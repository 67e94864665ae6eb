use Rattle.std.proofs.Common.{true, ◌⊎◌, ◌-◌, ◌≤◌, ◌+◌, ◌≡◌, ℕ, suc, ◌<◌, false, List, ◌∷◌, map, length, get_or, drop, Some, sym, ap, ◌∙◌, arith}
use Rattle.scene.proofs.Loops.{symbol_here}
use Rattle.std.proofs.lemmas.List.{length-map}
use Rattle.tree.specs.Order.{order_fault}
use Rattle.tree.specs.Rows.{node_symbol}
use Rattle.tree.specs.Spell.{Symbol, is_solid}
use Rattle.tree.specs.declared.node.Node.{Node}
use Rattle.tree.specs.declared.node.NodeKind.TheVariants.{Solid}
use Rattle.scenefile.proofs.Orders.{solid_over, operator_over, row_on, end_one, end_other}
use Rattle.scenefile.proofs.order.find_order_fault.Goals as goal

-- the row at place i, as the loop reads it
abbrev row : List Node → ℕ → Symbol
row xs i = node_symbol (get_or xs i (record { kind = Solid; turned = false; number = 0 }))

here : (xs : List Node) (i : ℕ) → i < length xs → drop i (map node_symbol xs) ≡ row xs i ∷ drop (suc i) (map node_symbol xs)
here xs i within = symbol_here node_symbol xs i (record { kind = Solid; turned = false; number = 0 }) within

pub returns-then-waiting-ge64 : goal.returns-then-waiting-ge64
returns-then-waiting-ge64 c =
    let xs = c.args.nodes.now in
    let i = c.loop-i.i in
    record {
      value =
          solid_over (map node_symbol xs) i (row xs i) (here xs i c.loop-i-test.true) c.loop-i.waiting (order_fault 0 0 (map node_symbol xs)) c.loop-i.invariant.0
          (sym c.if-is_solid.ensures) c.if-waiting-ge64.true;
      bound = omega (arith, c.loop-i-test.true);
    }

pub returns-then-waiting-lt2 : goal.returns-then-waiting-lt2
returns-then-waiting-lt2 c =
    let xs = c.args.nodes.now in
    let i = c.loop-i.i in
    record {
      value =
          operator_over (map node_symbol xs) i (row xs i) (here xs i c.loop-i-test.true) c.loop-i.waiting (order_fault 0 0 (map node_symbol xs)) c.loop-i.invariant.0
          (sym c.if-is_solid.ensures) c.if-waiting-lt2.true;
      bound = omega (arith, c.loop-i-test.true);
    }

pub loop-i-preserved : goal.loop-i-preserved
loop-i-preserved c =
    let xs = c.args.nodes.now in
    let i = c.loop-i.i in
    let l = map node_symbol xs in
    let o = order_fault 0 0 l in
    let at = here xs i c.loop-i-test.true in
    let w = c.loop-i.waiting in
    let way : ((is_solid (row xs i) ≡ true) × (w < 64) × (c.if-is_solid.waiting ≡ w + 1)) ⊎ ((is_solid (row xs i) ≡ false) × (2 ≤ w) × (c.if-is_solid.waiting ≡ w - 1)) = grind arith in
    row_on l i (row xs i) at w o c.loop-i.invariant.0 c.loop-i.invariant.1 c.if-is_solid.waiting way

pub returns-then-waiting-eq1 : goal.returns-then-waiting-eq1
returns-then-waiting-eq1 c =
    let xs = c.args.nodes.now in
    let l = map node_symbol xs in
    let i = c.loop-i.i in
    let done : i ≡ length l = omega (arith, length-map xs node_symbol, c.loop-i-test.false, c.loop-i.auto.i-end) in
    record {
      value =
          end_one l i done (order_fault 0 0 l) (sym (ap (λ w. order_fault i w (drop i l)) c.if-waiting-eq1.true) ∙ c.loop-i.invariant.0);
      bound = tt;
    }

pub returns-else-waiting-eq1 : goal.returns-else-waiting-eq1
returns-else-waiting-eq1 c =
    let xs = c.args.nodes.now in
    let l = map node_symbol xs in
    let i = c.loop-i.i in
    let done : i ≡ length l = omega (arith, length-map xs node_symbol, c.loop-i-test.false, c.loop-i.auto.i-end) in
    record {
      value =
          ap Some (sym (length-map xs node_symbol)) ∙ end_other l i done c.loop-i.waiting (order_fault 0 0 l) c.loop-i.invariant.0 c.if-waiting-eq1.false;
      bound = omega arith;
    }
