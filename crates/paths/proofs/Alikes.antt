-- Twins along a path. Assumes nothing.
use Rattle.std.proofs.Common.{◌≡◌, ℕ, Bool, true, false, cond, List, [], ◌∷◌, ℤ, refl, subst}
use Rattle.cells.specs.Cells.{Cube, radius, centre}
use Rattle.cells.specs.Paths.{cube_of}
use Rattle.tree.specs.Far.{is_far}
use Rattle.tree.specs.Parts.{Parts}
use Rattle.tree.specs.Prune.{prune}
use Rattle.space.specs.Pt.{Pt}
use Rattle.tree.specs.Tree.{Tree, value}
use Rattle.tree.specs.Twins.{Twin}
use Rattle.tree.proofs.Twinning.{twin_value, twin_length, prune_twin}
use Rattle.paths.specs.Held.{Held, near, far, marked, descended, held}
use Rattle.paths.specs.TwinPaths.{Alike, entries, gaps_held, TwinsHeld}
use Rattle.paths.proofs.Gaps.{twin_gaps}

marked_alike : (C R : ℕ) (d : ℤ) (t u : Tree) → Twin t u → Alike (marked C R d t) (marked C R d u)
marked_alike C R d t u twin = go (is_far C R d) _
  where
    go : (out : Bool) (c : ℤ) → Alike (cond out (far c) (near t)) (cond out (far c) (near u))
    go true c = refl
    go false c = twin

-- twins are cut down to twins, with one value at the centre
descended_alike : (P : Parts) (C : ℕ) (c : Cube) (h k : Held) → Alike h k → Alike (descended P C c h) (descended P C c k)
descended_alike P C c (near t) (near u) twin =
    let R = radius c.level in
    let cut = prune P (centre c) R t in
    let cut_twin = prune_twin P (centre c) R twin in
    subst (λ d. Alike (marked C R (value P cut (centre c)) cut) (marked C R d (prune P (centre c) R u))) (twin_value cut_twin P (centre c))
    (marked_alike C R (value P cut (centre c)) cut (prune P (centre c) R u) cut_twin)
descended_alike P C c (near t) (far e) never = absurd never
descended_alike P C c (far d) (near u) never = absurd never
descended_alike P C c (far d) (far e) same = same

pub held_alike : (P : Parts) (C : ℕ) (t u : Tree) → Twin t u → (path : List ℕ) → Alike (held P C t path) (held P C u path)
unfolding held
held_alike P C t u twin [] = twin
held_alike P C t u twin (n ∷ path) = descended_alike P C (cube_of (n ∷ path)) (held P C t path) (held P C u path) (held_alike P C t u twin path)

pub alike_entries : (h k : Held) → Alike h k → entries h ≡ entries k
alike_entries (near t) (near u) twin = twin_length twin
alike_entries (near t) (far e) never = absurd never
alike_entries (far d) (near u) never = absurd never
alike_entries (far d) (far e) same = refl

alike_gaps : (P : Parts) (p : Pt) (n g : ℕ) (h k : Held) → Alike h k → gaps_held P p n g h ≡ gaps_held P p n g k
alike_gaps P p n g (near t) (near u) twin = twin_gaps t u twin P p n g
alike_gaps P p n g (near t) (far e) never = absurd never
alike_gaps P p n g (far d) (near u) never = absurd never
alike_gaps P p n g (far d) (far e) same = refl

pub twins_held : TwinsHeld
twins_held P C t u twin path =
    let alike = held_alike P C t u twin path in
    let one = held P C t path in
    let other = held P C u path in
    (alike, alike_entries one other alike, λ p n g. alike_gaps P p n g one other alike)
