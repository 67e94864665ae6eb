-- What is held along a path says what the tree says. Assumes nothing.
use Rattle.std.proofs.Common.{◌≡◌, ℕ, ◌*◌, ◌≤◌, Bool, true, false, cond, List, [], ◌∷◌, ℤ, refl, ◌∙◌, subst, arith}
use Rattle.space.specs.Pt.{Pt, InSpace, apart²}
use Rattle.cells.specs.CellLaw.{Inside}
use Rattle.cells.specs.Cells.{Cube, radius, centre, In}
use Rattle.cells.specs.Paths.{cube_of, PathOk}
use Rattle.cells.proofs.Cubes.{points_law, radius_law, children_law, paths_law}
use Rattle.std.proofs.lemmas.Bool.{ltb-true}
use Rattle.space.specs.Bound.{Bound}
use Rattle.tree.specs.Far.{is_far, far_constant}
use Rattle.tree.specs.Parts.{Parts, Lawful}
use Rattle.tree.specs.Prune.{prune}
use Rattle.tree.specs.Tree.{Tree, value}
use Rattle.tree.proofs.Fars.{far_law}
use Rattle.tree.proofs.Pruning.{prune_law}
use Rattle.tree.proofs.Smaller.{smaller_law}
use Rattle.paths.specs.Held.{Held, near, far, marked, descended, held, Says, Fits, HeldLaw}

-- ---- one descent

module _ (P : Parts) (law : Lawful P) (C : ℕ) (two : 2 ≤ C) where
  -- a mark, at a point within R of the centre
  marked_says : (R : ℕ) (middle p : Pt) → InSpace middle → InSpace p → apart² middle p ≤ R * R → (u : Tree) (v : ℤ) → value P u p ≡ v → Says P (marked C R (value P u middle) u) p v
  marked_says R middle p m_in p_in close u v e = go (is_far C R (value P u middle)) refl
    where
      go : (out : Bool) → is_far C R (value P u middle) ≡ out → Says P (cond out (far (far_constant R (value P u middle))) (near u)) p v
      go true beyond = subst (Bound (far_constant R (value P u middle))) e (far_law P law u middle p C R two m_in p_in close (ltb-true _ _ beyond))
      go false beyond = e

  pub descended_says : (c : Cube) → Inside c → (p : Pt) → In c p → (h : Held) (v : ℤ) → Says P h p v → Says P (descended P C c h) p v
  descended_says c inside p p_in (near u) v e =
      let R = radius c.level in
      let points = points_law c inside in
      let close = (radius_law c inside.level_in).0 p p_in in
      let same = prune_law P law u (centre c) p R points.0 (points.2 p p_in) close in
      marked_says R (centre c) p points.0 (points.2 p p_in) close (prune P (centre c) R u) v (same ∙ e)
  descended_says c inside p p_in (far d) v bound = bound

marked_fits : (C R : ℕ) (d : ℤ) (t u : Tree) → Fits t (near u) → Fits t (marked C R d u)
marked_fits C R d t u fits = go (is_far C R d)
  where
    go : (out : Bool) → Fits t (cond out (far (far_constant R d)) (near u))
    go true = tt
    go false = fits

descended_fits : (P : Parts) (C : ℕ) (t : Tree) (c : Cube) (h : Held) → Fits t h → Fits t (descended P C c h)
descended_fits P C t c (near u) fits =
    let cut = prune P (centre c) (radius c.level) u in
    let smaller = smaller_law P (centre c) (radius c.level) u in
    let cut_fits : Fits t (near cut) = (omega (arith, smaller.0, fits.0), omega (arith, smaller.1, fits.1)) in
    marked_fits C (radius c.level) (value P cut (centre c)) t cut cut_fits
descended_fits P C t c (far d) fits = tt

-- ---- a path

shorter : (n : ℕ) (path : List ℕ) → PathOk (n ∷ path) → PathOk path
shorter n path ok = let short = ok.short in record { short = omega arith; numbers = ok.numbers.1 }

pub held_says : (P : Parts) → Lawful P → (C : ℕ) → 2 ≤ C → (t : Tree) (path : List ℕ) → PathOk path → (p : Pt) → In (cube_of path) p → Says P (held P C t path) p (value P t p)
unfolding held cube_of
held_says P law C two t [] ok p p_in = refl
held_says P law C two t (n ∷ path) ok p p_in =
    let above = paths_law path (shorter n path ok) in
    let short = ok.short in
    let level = above.0 in
    let in_parent = ((children_law (cube_of path) (omega arith) p).1 n ok.numbers.0 p_in).0 in
    descended_says P law C two (cube_of (n ∷ path)) (paths_law (n ∷ path) ok).1 p p_in (held P C t path) (value P t p)
    (held_says P law C two t path (shorter n path ok) p in_parent)

pub held_fits : (P : Parts) (C : ℕ) (t : Tree) (path : List ℕ) → Fits t (held P C t path)
unfolding held
held_fits P C t [] = (omega arith, omega arith)
held_fits P C t (n ∷ path) = descended_fits P C t (cube_of (n ∷ path)) (held P C t path) (held_fits P C t path)

pub held_law : HeldLaw
held_law P law C two t path ok = (held_says P law C two t path ok, held_fits P C t path)
