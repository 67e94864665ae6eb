use Rattle.std.proofs.Common.{◌≡◌, ℕ, ◌+◌, ◌-◌, ◌<◌, min, length, get_or, take, pos, sym, ap, ◌∙◌, ap₂, arith, rules}
use Rattle.space.specs.At.{at}
use Rattle.space.specs.Pt.{apart²}
use Rattle.space.specs.Root.{root}
use Rattle.space.specs.declared.point.Point.{Point}
use Rattle.space.proofs.RootOrder.{root_min}
use Rattle.solids.specs.Probed.{least, roots, probed_distance}
use Rattle.solids.proofs.Casts.{less}
use Rattle.solids.proofs.Least.{least_next, length_rest, get_or-rest}
use Rattle.solids.proofs.distances.ProbedSolid.distance.Goals as goal

pub loop-centre-preserved : goal.loop-centre-preserved
loop-centre-preserved c =
    let f : Point → ℕ = λ v. root (apart² (at c.args.p) (at v)) in
    let s = c.args.self.now in
    let i = c.loop-centre.centre-index in
    let long : length s.centres ≡ 8 = search rules in
    let below : i < c.from.result - 1 = omega (arith, c.loop-centre-test.true, length_rest (c.from.result - 1) s.centres (omega (arith, s.count_in, c.from.ensures))) in
    let same : c.centre-item.result ≡ get_or s.centres (i + 1) c.centre-item.result =
    c.centre-item.is ∙ get_or-rest (c.from.result - 1) s.centres i c.centre-item.result below in
    ap root c.min-near.ensures
    ∙ root_min c.loop-centre.near c.squared_distance.result
    ∙ ap₂ min c.loop-centre.invariant (ap root c.squared_distance.ensures ∙ ap f same)
    ∙ sym (least_next f c.centre-item.result s.centres (i + 1) (omega arith) (omega (arith, s.count_in, c.from.ensures)))

pub returns : goal.returns
unfolding probed_distance
returns c =
    let s = c.args.self.now in
    let all : c.loop-centre.centre-index + 1 ≡ s.count = omega (arith, c.loop-centre-test.false, c.loop-centre.auto.centre-index-end, s.some, c.from.ensures, length_rest (c.from.result - 1) s.centres (omega (arith, s.count_in, s.eight, c.from.ensures))) in
    rw c.from-2.ensures (less c.root_of.result _ s.radius
    (c.root_of.ensures.value ∙ ap pos (c.loop-centre.invariant ∙ ap (λ n. least (roots (at c.args.p) (take n s.centres))) all))
    c.root_of.ensures.bound
    (omega (arith, s.radius_in)))
