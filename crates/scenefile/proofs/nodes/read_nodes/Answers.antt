use Rattle.std.proofs.Common.{◌<◌, ◌≤◌, map, length, sym, ap, ◌∙◌, subst, arith, rules, take_all, below_more, length-set}
use Rattle.std.specs.Iterator.Adapters.{enumerate_count, enumerate_source}
use Rattle.std.specs.Slice.Iter.{chunks_exact_rest}
use Rattle.records.specs.Node.{node_record}
use Rattle.scene.specs.Lists.{all_named}
use Rattle.scenefile.specs.Checks.{NoNode}
use Rattle.scenefile.specs.Rows.{row, rows}
use Rattle.tree.specs.Rows.{node_symbol}
use Rattle.scenefile.proofs.Readings.{rows_more, named_more}
use Rattle.scenefile.proofs.Walks.{piece_below, piece_is, after_is, none_left}
use Rattle.scenefile.proofs.nodes.read_nodes.Goals as goal

pub loop-i-preserved : goal.loop-i-preserved
loop-i-preserved c =
    let inv = c.loop-i.invariant in
    let steps = c.in-Some.ensures.steps in
    let table = c.args.table.now in
    let into = c.loop-i.into in
    let i = enumerate_count c.loop-i.i-iterator in
    let x = c.in-Some-read_within.node in
    let got = c.in-Some-read_within.ensures in
    let four = steps.0.1.1 ∙ inv.four in
    let below = piece_below (length c.args.into.now) i table _ c.in-Some.record.now _ c.requires inv.left steps.0.1.0 four in
    let is = piece_is (length c.args.into.now) i table _ c.in-Some.record.now _ c.requires inv.left steps.0.1.0 four in
    let inside : i < length into = omega (arith, c.loop-i.auto.into) in
    let read = rows_more node_record into table 0 4 i x inside (got.0 ∙ is) inv.read in
    let named = named_more c.args.solids c.args.joints into i x inside got.1 inv.named in
    let fine = below_more (λ k. NoNode c.args.solids c.args.joints (row table 0 4 k) → ⊥) i inv.fine (λ nobody. nobody x (got.0 ∙ is) got.1) in
    record {
      can_next = search rules;
      finite = search rules;
      four = search rules;
      left = rw steps.2 (after_is (length c.args.into.now) i table _ c.in-Some.record.now _ c.requires inv.left steps.0.1.0 four);
      within = rw steps.2 (let e = length-set into c.in-Some.i x in omega arith);
      read = rw (steps.1, steps.2) read;
      named = rw (steps.1, steps.2) named;
      fine = rw steps.2 fine;
    }

pub returns-in-None-read_within : goal.returns-in-None-read_within
returns-in-None-read_within c =
    let inv = c.loop-i.invariant in
    let steps = c.in-Some.ensures.steps in
    let table = c.args.table.now in
    let i = enumerate_count c.loop-i.i-iterator in
    let four = steps.0.1.1 ∙ inv.four in
    let below = piece_below (length c.args.into.now) i table _ c.in-Some.record.now _ c.requires inv.left steps.0.1.0 four in
    let is = piece_is (length c.args.into.now) i table _ c.in-Some.record.now _ c.requires inv.left steps.0.1.0 four in
    let none = subst (NoNode c.args.solids c.args.joints) is c.in-None-read_within.ensures in
    rw steps.1 (record { within = below; here = none; before = inv.fine })

pub returns : goal.returns
returns c =
    let inv = c.loop-i.invariant in
    let table = c.args.table.now in
    let into = c.loop-i.into in
    let i = enumerate_count c.loop-i.i-iterator in
    let short = subst (λ n. length (chunks_exact_rest (enumerate_source c.loop-i.i-iterator)) < n) inv.four c.in-None.ensures.steps.0.1.0 in
    let few : i ≤ length c.args.into.now = omega (arith, inv.within, c.loop-i.auto.into) in
    let done = none_left (length c.args.into.now) i table _ c.requires inv.left short few in
    let all : length into ≤ i = omega (arith, done, c.loop-i.auto.into) in
    let whole = take_all i into all in (
      ap (map node_record) (sym whole) ∙ inv.read ∙ ap (rows table 0 4) done,
      ap (λ l. all_named c.args.solids c.args.joints (map node_symbol l)) (sym whole) ∙ inv.named,
      λ k below. inv.fine k (omega (arith, done)),
    )
