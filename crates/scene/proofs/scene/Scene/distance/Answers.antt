use Rattle.std.proofs.Common.{map, length, sym, ap, ◌∙◌, subst, w32, SFits, to_z, of_z, rules}
use Rattle.space.specs.At.{at}
use Rattle.std.proofs.lemmas.Int.{to_z-of_z}
use Rattle.tree.proofs.Orders.{spell_one}
use Rattle.tree.specs.Distance.{Distance}
use Rattle.tree.specs.Parts.{parts}
use Rattle.tree.specs.Rows.{entry_symbol}
use Rattle.tree.specs.Tree.{Tree, value}
use Rattle.scene.proofs.Wholes.{same_distance}
use Rattle.scene.proofs.scene.Scene.distance.Goals as goal

pub returns : goal.returns
returns g c =
    let s = c.args.self.now in
    let P = parts g.S.Solid.dist g.J.Joint.radius g.J.Joint.fillet s.solids.now s.joints.now in
    let fits : SFits w32 c.value.result = search rules in
    let q = at c.args.p in
    let w = c.whole.result in
    let listed = subst (λ l. Distance (parts g.S.Solid.dist g.J.Joint.radius g.J.Joint.fillet w.solids.now w.joints.now) (map entry_symbol l) q c.value.result) c.whole.ensures.list c.value.ensures in
    let placed = subst (λ xs. Distance (parts g.S.Solid.dist g.J.Joint.radius g.J.Joint.fillet xs w.joints.now) (map entry_symbol s.list.now) q c.value.result) c.whole.ensures.solids listed in
    let d = subst (λ xs. Distance (parts g.S.Solid.dist g.J.Joint.radius g.J.Joint.fillet s.solids.now xs) (map entry_symbol s.list.now) q c.value.result) c.whole.ensures.joints placed in
    same_distance (length s.solids.now) (length s.joints.now) s.nodes.now s.list.now s.whole P (at c.args.p) (to_z w32 (of_z w32 c.value.result)) s.ordered
    (λ t e. to_z-of_z w32 c.value.result fits ∙ d.2 ∙ ap (λ (u : Tree). value P u (at c.args.p)) (spell_one d.0 t (d.1 ∙ sym e)))
