use Rattle.std.proofs.Common.{◌≡◌, ◌^◌, ◌<◌, length, get_or, sym, ap, ◌∙◌, arith}
use Rattle.std.proofs.lemmas.Int.{to_z-of_z}
use Rattle.std.specs.Int.{int_max, int_min}
use Rattle.tree.proofs.Sizes.{joined_small, fillet_small}
use Rattle.tree.specs.Parts.{joint_fillet}
use Rattle.tree.specs.Rows.{blend_op}
use Rattle.tree.specs.Tree.{gap, joined, union, common}
use Rattle.scene.proofs.Joins.{union_is, common_is}
use Rattle.scene.proofs.Tables.{joined_map}
use Rattle.scene.proofs.listing.Listing.joined_of.Goals as goal

pub returns-in-Union : goal.returns-in-Union
returns-in-Union g c =
    let a = c.args.a in
    let b = c.args.b in
    let a_fits = c.ranges.a in
    let b_fits = c.ranges.b in
    let joints = c.args.self.now.joints.now in
    let n = c.from.result in
    let j = get_or joints n c.index-self-from.result in
    let within : n < length joints = omega (arith, c.from.ensures, c.requires.inside) in
    let few = fillet_small (g.met.J.Joint.smooth j) in
    let d : c.abs_diff.result ≡ gap a b = simp to_z-of_z at c.abs_diff.ensures in
    let m : c.min.result ≡ int_min a b = simp to_z-of_z at c.min.ensures.value in
    let is = union_is (g.J.Joint.fillet j) few a b c.min.result c.from-fillet.result c.fillet.result c.abs_diff.result c.requires.a_small c.requires.b_small c.from-fillet.ensures c.fillet.ensures d m in
    record {
      value =
          is
          ∙ joined_map g.J.Joint.fillet joints n c.index-self-from.result union a b within
          ∙ ap (λ k. joined union (joint_fillet g.J.Joint.fillet joints k) a b) c.from.ensures
          ∙ ap (λ k. joined (blend_op k) (joint_fillet g.J.Joint.fillet joints c.args.number) a b) (sym c.in-Union.is);
      bound = rw is (joined_small union (g.J.Joint.fillet j) a b (2 ^ 30) few c.requires.a_small c.requires.b_small);
    }

pub returns-in-Common : goal.returns-in-Common
returns-in-Common g c =
    let a = c.args.a in
    let b = c.args.b in
    let a_fits = c.ranges.a in
    let b_fits = c.ranges.b in
    let joints = c.args.self.now.joints.now in
    let n = c.from.result in
    let j = get_or joints n c.index-self-from.result in
    let within : n < length joints = omega (arith, c.from.ensures, c.requires.inside) in
    let few = fillet_small (g.met.J.Joint.smooth j) in
    let d : c.abs_diff.result ≡ gap a b = simp to_z-of_z at c.abs_diff.ensures in
    let m : c.max.result ≡ int_max a b = simp to_z-of_z at c.max.ensures.value in
    let is = common_is (g.J.Joint.fillet j) few a b c.max.result c.from-fillet.result c.fillet.result c.abs_diff.result c.requires.a_small c.requires.b_small c.from-fillet.ensures c.fillet.ensures d m in
    record {
      value =
          is
          ∙ joined_map g.J.Joint.fillet joints n c.index-self-from.result common a b within
          ∙ ap (λ k. joined common (joint_fillet g.J.Joint.fillet joints k) a b) c.from.ensures
          ∙ ap (λ k. joined (blend_op k) (joint_fillet g.J.Joint.fillet joints c.args.number) a b) (sym c.in-Common.is);
      bound = rw is (joined_small common (g.J.Joint.fillet j) a b (2 ^ 30) few c.requires.a_small c.requires.b_small);
    }
