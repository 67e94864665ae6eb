-- A header without a fault, by what each test finds. Assumes nothing.
use Rattle.std.proofs.Common.{◌≡◌, ℕ, ◌≤◌, Bool, true, false, cond, not, eqb, leb, List, [], ◌∷◌, ◌++◌, length, Some, None, refl, ap, ◌∙◌, arith}
use Rattle.roundtrip.specs.RoundTrip.{RoomFor}
use Rattle.scenefile.specs.Header.{first_fault, header_fault, count_faults, layout_faults, room_faults, make_of, count, solids_offset, joints_offset, nodes_offset, solids_start, joints_start, nodes_start, file_end, from_to}
use Rattle.scenefile.specs.declared.counts.Rooms.{Rooms}
use Rattle.space.specs.declared.refusal.Refusal.{Refusal}
use Rattle.space.specs.declared.refusal.Table.TheVariants.{Solids, Joints, Nodes}
use Rattle.std.proofs.lemmas.Bool.{not-false, not_from_true, ltb-false, le-ltb, leb-true, le-leb, eqb-true, eq-eqb, and_parts, and_from}
use Rattle.std.specs.List.{AllByRecursion}

all_pass : (l : List (Bool × Refusal)) → first_fault l ≡ None → AllByRecursion (λ x. x.0 ≡ false) l
all_pass [] none = tt
all_pass (x ∷ rest) none = go x.0 none (all_pass rest)
  where
    go : (b : Bool) → cond b (Some x.1) (first_fault rest) ≡ None → (first_fault rest ≡ None → AllByRecursion (λ y. y.0 ≡ false) rest) → (b ≡ false) × AllByRecursion (λ y. y.0 ≡ false) rest
    go true found later = let z : ◌≡◌ {A = ℕ} 0 1 = cc in absurd (let f : ⊥ = omega arith in f)
    go false found later = (refl, later found)

none_found : (l : List (Bool × Refusal)) → AllByRecursion (λ x. x.0 ≡ false) l → first_fault l ≡ None
none_found [] all = refl
none_found (x ∷ rest) all = ap (λ b. cond b (Some x.1) (first_fault rest)) all.0 ∙ none_found rest all.1

-- what a header says that has no fault
pub record HeaderFine (make size : ℕ) (bytes : List ℕ) (rooms : Rooms) : Type 0 where
  pub long : 20 ≤ length bytes
  pub make_is : make_of bytes ≡ make
  pub some_solids : 1 ≤ count Solids bytes
  pub few_solids : count Solids bytes ≤ 512
  pub few_joints : count Joints bytes ≤ 511
  pub some_nodes : 1 ≤ count Nodes bytes
  pub few_nodes : count Nodes bytes ≤ 1023
  pub solids_at : solids_offset bytes ≡ solids_start
  pub joints_at : joints_offset bytes ≡ joints_start size bytes
  pub nodes_at : nodes_offset bytes ≡ nodes_start size bytes
  pub ends : length bytes ≡ file_end size bytes
  pub room : RoomFor (count Solids bytes) (count Joints bytes) (count Nodes bytes) rooms

same : (a b : ℕ) → not (eqb a b) ≡ false → a ≡ b
same a b e = eqb-true a b (not-false (eqb a b) e)

same_test : (a b : ℕ) → a ≡ b → not (eqb a b) ≡ false
same_test a b e = not_from_true (eqb a b) (eq-eqb a b e)

within : (low high n : ℕ) → not (from_to low high n) ≡ false → (low ≤ n) × (n ≤ high)
within low high n e =
    let both = and_parts (leb low n) (leb n high) (not-false (from_to low high n) e) in
    (leb-true low n both.0, leb-true n high both.1)

within_test : (low high n : ℕ) → low ≤ n → n ≤ high → not (from_to low high n) ≡ false
within_test low high n p q = not_from_true (from_to low high n) (and_from (leb low n) (leb n high) (le-leb low n p) (le-leb n high q))

module _ (make size : ℕ) (bytes : List ℕ) (rooms : Rooms) where
  pub header_fine : header_fault make size bytes rooms ≡ None → HeaderFine make size bytes rooms
  header_fine none =
      let t = all_pass (count_faults make bytes ++ (layout_faults size bytes ++ room_faults bytes rooms)) none in
      let solids = within 1 512 (count Solids bytes) t.1.1.0 in
      let joints = within 0 511 (count Joints bytes) t.1.1.1.0 in
      let nodes = within 1 1023 (count Nodes bytes) t.1.1.1.1.0 in
      let layout = t.1.1.1.1.1 in
      let room = layout.1.1.1.1 in
      record {
        long = ltb-false (length bytes) 20 t.0;
        make_is = same (make_of bytes) make t.1.0;
        some_solids = solids.0;
        few_solids = solids.1;
        few_joints = joints.1;
        some_nodes = nodes.0;
        few_nodes = nodes.1;
        solids_at = same (solids_offset bytes) solids_start layout.0;
        joints_at = same (joints_offset bytes) (joints_start size bytes) layout.1.0;
        nodes_at = same (nodes_offset bytes) (nodes_start size bytes) layout.1.1.0;
        ends = same (length bytes) (file_end size bytes) layout.1.1.1.0;
        room = record {
          solids_room = ltb-false rooms.solids (count Solids bytes) room.0;
          joints_room = ltb-false rooms.joints (count Joints bytes) room.1.0;
          nodes_room = ltb-false rooms.nodes (count Nodes bytes) room.1.1.0;
          list_room = ltb-false rooms.list (count Nodes bytes) room.1.1.1.0;
        };
      }

  pub no_fault : HeaderFine make size bytes rooms → header_fault make size bytes rooms ≡ None
  no_fault fine =
      none_found (count_faults make bytes ++ (layout_faults size bytes ++ room_faults bytes rooms)) (
        le-ltb (length bytes) 20 fine.long,
        (
          same_test (make_of bytes) make fine.make_is,
          (
            within_test 1 512 (count Solids bytes) fine.some_solids fine.few_solids,
            (
              within_test 0 511 (count Joints bytes) (omega arith) fine.few_joints,
              (
                within_test 1 1023 (count Nodes bytes) fine.some_nodes fine.few_nodes,
                (
                  same_test (solids_offset bytes) solids_start fine.solids_at,
                  (
                    same_test (joints_offset bytes) (joints_start size bytes) fine.joints_at,
                    (
                      same_test (nodes_offset bytes) (nodes_start size bytes) fine.nodes_at,
                      (
                        same_test (length bytes) (file_end size bytes) fine.ends,
                        (
                          le-ltb rooms.solids (count Solids bytes) fine.room.solids_room,
                          (
                            le-ltb rooms.joints (count Joints bytes) fine.room.joints_room,
                            (
                              le-ltb rooms.nodes (count Nodes bytes) fine.room.nodes_room,
                              (
                                le-ltb rooms.list (count Nodes bytes) fine.room.list_room,
                                tt,
                              ),
                            ),
                          ),
                        ),
                      ),
                    ),
                  ),
                ),
              ),
            ),
          ),
        ),
      )
