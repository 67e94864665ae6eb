-- What the checks give the loading. Assumes nothing.
use Rattle.std.proofs.Common.{◌≡◌, ℕ, ◌*◌, ◌<◌, ◌≤◌, List, length, take, sym, ap, ◌∙◌, subst, arith, length-take-le}
use Rattle.records.specs.Format.{Format}
use Rattle.scenefile.specs.Checks.{Checked, solid_rows, joint_rows}
use Rattle.scenefile.specs.Header.{solids_start, joints_start}
use Rattle.scenefile.specs.Rows.{part, row, rows, Nobodys}
use Rattle.scenefile.specs.declared.counts.Counts.{Counts}
use Rattle.scenefile.specs.declared.counts.Rooms.{Rooms}
use Rattle.scenefile.proofs.Walks.{none_in, rows_of, joints_part}
use Rattle.tree.specs.declared.node.Node.{Node}

module _ {S J : Type 0} (f : Format S J) (bytes : List ℕ) (rooms : Rooms) (c : Counts) (nodes : List Node) (checked : Checked f bytes rooms c nodes) (table : List ℕ) where
  -- the table of the solids
  module _ (size : ℕ) (sized : size ≡ f.size) (is : table ≡ part solids_start (size * c.solids) bytes) where
    here : table ≡ part solids_start (f.size * c.solids) bytes
    here = is ∙ ap (λ s. part solids_start (s * c.solids) bytes) sized

    pub solids_good : (k : ℕ) → k < c.solids → Nobodys f.solid (row table 0 f.size k) → ⊥
    solids_good =
        none_in (Nobodys f.solid) bytes table solids_start f.size c.solids here
        (λ j lt. checked.rows_fine.solids_good j (omega (arith, checked.counted.solids_is)))

    pub solid_rows_are : rows table 0 f.size c.solids ≡ solid_rows f.size bytes
    solid_rows_are =
        rows_of bytes table solids_start f.size c.solids here ∙ ap (rows bytes solids_start f.size) checked.counted.solids_is

  -- the table of the joints
  module _ (size four : ℕ) (sized : size ≡ f.size) (four_is : four ≡ 4) (is : table ≡ part (joints_start size bytes) (4 * c.joints) bytes) where
    there : table ≡ part (joints_start f.size bytes) (four * c.joints) bytes
    there = joints_part bytes table size f.size four c.joints sized four_is is

    pub joints_good : (k : ℕ) → k < c.joints → Nobodys f.joint (row table 0 four k) → ⊥
    joints_good =
        none_in (Nobodys f.joint) bytes table (joints_start f.size bytes) four c.joints there
        (subst (λ w. (j : ℕ) → j < c.joints → Nobodys f.joint (row bytes (joints_start f.size bytes) w j) → ⊥) (sym four_is) (λ j lt. checked.rows_fine.joints_good j (omega (arith, checked.counted.joints_is))))

    pub joint_rows_are : rows table 0 four c.joints ≡ joint_rows f.size bytes
    joint_rows_are =
        rows_of bytes table (joints_start f.size bytes) four c.joints there
        ∙ ap (λ w. rows bytes (joints_start f.size bytes) w c.joints) four_is
        ∙ ap (rows bytes (joints_start f.size bytes) 4) checked.counted.joints_is

-- the first n of a list, in their length and as they are
pub front_is : {X : Type 0} (xs : List X) (n : ℕ) → n ≤ length xs → (P : ℕ → List X → Type 0) → P (length (take n xs)) (take n xs) → P n (take n xs)
front_is xs n h P given = subst (λ k. P k (take n xs)) (length-take-le n xs h) given
