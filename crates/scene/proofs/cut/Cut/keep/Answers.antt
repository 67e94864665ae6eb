use Rattle.std.proofs.Common.{◌≡◌, ◌+◌, ◌-◌, cond, ◌++◌, take, drop, sym, refl, ap, ◌∙◌, arith}
use Rattle.scene.proofs.Freeing.{first_stays, second_moved, moved_beyond}
use Rattle.scene.proofs.cut.Cut.keep.Goals as goal

pub returns-then-keep_first : goal.returns-then-keep_first
returns-then-keep_first c =
    let a = c.args in
    let p = c.requires in
    let xs = a.self.now.free.now in
    let end = a.self.now.written in
    let up : a.second ≡ a.first + (a.second - a.first) = omega (arith, p.rising) in
    record {
      written = up ∙ ap (λ k. a.first + cond k (a.second - a.first) (end - a.second)) (sym c.if-keep_first.true);
      front =
          first_stays xs a.first a.second end p.rising p.ends a.self.now.within
          ∙ ap (λ k. take a.first xs ++ cond k (take (a.second - a.first) (drop a.first xs)) (take (end - a.second) (drop a.second xs))) (sym c.if-keep_first.true);
      len = refl;
      beyond = refl;
      same_part = refl;
      waiting = refl;
    }

pub returns-else-keep_first : goal.returns-else-keep_first
returns-else-keep_first c =
    let a = c.args in
    let p = c.requires in
    let xs = a.self.now.free.now in
    let end = a.self.now.written in
    let after = c.copy_within.ensures.after in
    record {
      written = ap (λ k. a.first + cond k (a.second - a.first) (end - a.second)) (sym c.if-keep_first.false);
      front =
          ap (take (a.first + (end - a.second))) after
          ∙ second_moved xs a.first a.second end p.rising p.ends a.self.now.within
          ∙ ap (λ k. take a.first xs ++ cond k (take (a.second - a.first) (drop a.first xs)) (take (end - a.second) (drop a.second xs))) (sym c.if-keep_first.false);
      len = c.copy_within.ensures.len;
      beyond = ap (drop end) after ∙ moved_beyond xs a.first a.second end p.rising p.ends a.self.now.within;
      same_part = refl;
      waiting = refl;
    }
