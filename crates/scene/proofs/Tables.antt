-- What is read off a table. Assumes nothing.
use Rattle.std.proofs.Common.{◌≡◌, ℕ, ◌<◌, List, length, get_or, ℤ, sym, ap}
use mathlib.Core.Path.{fun_ext}
use Rattle.space.specs.At.{at}
use Rattle.space.specs.Pt.{InSpace}
use Rattle.space.specs.declared.point.Point.{Point}
use Rattle.std.proofs.lemmas.List.{get_or-map}
use Rattle.tree.specs.Parts.{joint_fillet}
use Rattle.tree.specs.Tree.{Op, joined}

pub in_space : (p : Point) → InSpace (at p)
in_space p = record { x_in = p.x_in; y_in = p.y_in; z_in = p.z_in }

-- an operator by the fillet of the joint that stands at place n
pub joined_map : {J : Type 0} (fillet : J → ℕ → ℕ) (joints : List J) (n : ℕ) (j : J) (op : Op) (a b : ℤ) → n < length joints → joined op (fillet (get_or joints n j)) a b ≡ joined op (joint_fillet fillet joints n) a b
joined_map fillet joints n j op a b within =
    ap (λ (f : ℕ → ℕ). joined op f a b) (fun_ext (λ gap. sym (get_or-map (λ x. fillet x gap) joints n j 0 within)))
