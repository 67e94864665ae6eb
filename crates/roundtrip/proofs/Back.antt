-- A scene that a file can hold, written and read again. Assumes nothing.
use Rattle.std.proofs.Common.{◌≡◌, ℕ, ◌+◌, ◌*◌, ◌≤◌, true, List, [], ◌++◌, map, length, drop, sym, refl, ap, ◌∙◌, subst, ap₂, append-nil, arith, length-append}
use Rattle.records.specs.Format.{Format, format}
use Rattle.records.specs.declared.record.Record.{Ghosts}
use Rattle.records.specs.Node.{node_record}
use Rattle.roundtrip.proofs.Headers.{HeaderFine, no_fault}
use Rattle.roundtrip.proofs.Numbers.{make_back, solids_back, joints_back, nodes_back, joints_offset_back, nodes_offset_back}
use Rattle.roundtrip.proofs.Pieces.{next_part, length_records, records_back}
use Rattle.roundtrip.proofs.Refusals.{not_refused}
use Rattle.roundtrip.specs.Bytes.{concat, file_bytes}
use Rattle.roundtrip.specs.RoundTrip.{Storable, RoomFor, ReadsBack, WrittenThenRead}
use Rattle.scene.specs.Lists.{all_named}
use Rattle.scene.specs.Used.{all_used}
use Rattle.scenefile.proofs.Chains.{ToldApart, same_tables, same_nodes}
use Rattle.scenefile.specs.Checks.{TreeFine, solid_rows, joint_rows, node_rows}
use Rattle.scenefile.specs.Header.{count, joints_start, nodes_start, file_end}
use Rattle.scenefile.specs.Load.{SceneOf}
use Rattle.scenefile.specs.Rows.{rows}
use Rattle.scenefile.specs.declared.counts.Rooms.{Rooms}
use Rattle.space.specs.declared.refusal.Table.TheVariants.{Solids, Joints, Nodes}
use Rattle.tree.specs.Rows.{node_symbol}
use Rattle.tree.specs.declared.node.Node.{Node}

module _ {S J : Type 0} (f : Format S J) (sized : (x : S) → length (f.solid x) ≡ f.size) (four : (x : J) → length (f.joint x) ≡ 4) (solids_apart : ToldApart f.solid) (joints_apart : ToldApart f.joint) (rooms : Rooms) (solids : List S) (joints : List J) (nodes : List Node) (storable : Storable solids joints nodes) (room : RoomFor (length solids) (length joints) (length nodes) rooms) where
  abbrev s : ℕ
  s = length solids

  abbrev j : ℕ
  j = length joints

  abbrev n : ℕ
  n = length nodes

  abbrev solid_part : List ℕ
  solid_part = concat (map f.solid solids)

  abbrev joint_part : List ℕ
  joint_part = concat (map f.joint joints)

  abbrev node_part : List ℕ
  node_part = concat (map node_record nodes)

  abbrev rest : List ℕ
  rest = solid_part ++ (joint_part ++ node_part)

  abbrev bytes : List ℕ
  bytes = file_bytes f solids joints nodes

  solids_many : count Solids bytes ≡ s
  solids_many = solids_back f.make f.size s j n rest

  joints_many : count Joints bytes ≡ j
  joints_many = joints_back f.make f.size s j n rest

  nodes_many : count Nodes bytes ≡ n
  nodes_many = nodes_back f.make f.size s j n rest

  joints_begin : joints_start f.size bytes ≡ 20 + f.size * s
  joints_begin = ap (λ k. 20 + f.size * k) solids_many

  nodes_begin : nodes_start f.size bytes ≡ 20 + f.size * s + 4 * j
  nodes_begin = ap₂ (λ a b. a + 4 * b) joints_begin joints_many

  -- how long the parts are, and where each lies
  solids_long : length solid_part ≡ f.size * s
  solids_long = length_records f.solid f.size sized solids

  joints_long : length joint_part ≡ 4 * j
  joints_long = length_records f.joint 4 four joints

  nodes_long : length node_part ≡ 4 * n
  nodes_long = length_records node_record 4 (λ x. refl) nodes

  joints_here : drop (20 + f.size * s) bytes ≡ joint_part ++ node_part
  joints_here = next_part bytes solid_part (joint_part ++ node_part) 20 (f.size * s) refl solids_long

  nodes_here : drop (20 + f.size * s + 4 * j) bytes ≡ node_part
  nodes_here = next_part bytes joint_part node_part (20 + f.size * s) (4 * j) joints_here joints_long

  rest_long : length rest ≡ f.size * s + (4 * j + 4 * n)
  rest_long = length-append solid_part (joint_part ++ node_part) ∙ ap₂ ◌+◌ solids_long (length-append joint_part node_part ∙ ap₂ ◌+◌ joints_long nodes_long)

  whole_long : length bytes ≡ 20 + length rest
  whole_long = omega arith

  ends : length bytes ≡ file_end f.size bytes
  ends =
      let end : file_end f.size bytes ≡ 20 + f.size * s + 4 * j + 4 * n = ap₂ (λ a b. a + 4 * b) nodes_begin nodes_many in
      let all : length bytes ≡ 20 + f.size * s + 4 * j + 4 * n = whole_long ∙ omega (arith, rest_long) in
      all ∙ sym end

  -- what is said of the three counts holds of the file's
  over : (P : ℕ → ℕ → ℕ → Type 0) → P s j n → P (count Solids bytes) (count Joints bytes) (count Nodes bytes)
  over P h =
      subst (λ a. P a (count Joints bytes) (count Nodes bytes)) (sym solids_many)
      (subst (λ b. P s b (count Nodes bytes)) (sym joints_many)
      (subst (λ c. P s j c) (sym nodes_many) h))

  fine : HeaderFine f.make f.size bytes rooms
  fine = record {
    long = omega (arith, whole_long);
    make_is = make_back f.make f.size s j n rest;
    some_solids = over (λ a b c. 1 ≤ a) storable.some_solids;
    few_solids = over (λ a b c. a ≤ 512) storable.few_solids;
    few_joints = over (λ a b c. b ≤ 511) storable.few_joints;
    some_nodes = over (λ a b c. 1 ≤ c) storable.some_nodes;
    few_nodes = over (λ a b c. c ≤ 1023) storable.few_nodes;
    solids_at = refl;
    joints_at = joints_offset_back f.make f.size s j n rest ∙ sym joints_begin;
    nodes_at = nodes_offset_back f.make f.size s j n rest ∙ sym nodes_begin;
    ends = ends;
    room = over (λ a b c. RoomFor a b c rooms) room;
  }

  solids_are : map f.solid solids ≡ solid_rows f.size bytes
  solids_are =
      records_back f.solid f.size sized bytes (joint_part ++ node_part) 20 solids refl
      ∙ ap (rows bytes 20 f.size) (sym solids_many)

  joints_are : map f.joint joints ≡ joint_rows f.size bytes
  joints_are =
      records_back f.joint 4 four bytes node_part (20 + f.size * s) joints joints_here
      ∙ ap₂ (λ start k. rows bytes start 4 k) (sym joints_begin) (sym joints_many)

  nodes_are : map node_record nodes ≡ node_rows f.size bytes
  nodes_are =
      records_back node_record 4 (λ x. refl) bytes [] (20 + f.size * s + 4 * j) nodes (nodes_here ∙ sym (append-nil node_part))
      ∙ ap₂ (λ start k. rows bytes start 4 k) (sym nodes_begin) (sym nodes_many)

  scene_back : SceneOf f bytes rooms solids joints nodes
  scene_back = record {
    no_fault = no_fault f.make f.size bytes rooms fine;
    solids_are = solids_are;
    joints_are = joints_are;
    nodes_are = nodes_are;
  }

  tree_back : TreeFine f.size bytes nodes
  tree_back = record {
    nodes_are = nodes_are;
    all_in = over (λ a b c. all_named a b (map node_symbol nodes) ≡ true) storable.all_in;
    ordered = storable.ordered;
    used = over (λ a b c. all_used a (map node_symbol nodes) ≡ true) storable.used;
  }

  pub written_back : ReadsBack f bytes rooms solids joints nodes
  written_back = record {
    scene = scene_back;
    accepted = not_refused f bytes rooms solids joints nodes scene_back tree_back;
    no_other = λ others other_joints other_nodes other. (
      same_tables f.solid solids_apart others solids (other.solids_are ∙ sym solids_are),
      same_tables f.joint joints_apart other_joints joints (other.joints_are ∙ sym joints_are),
      same_nodes other_nodes nodes (other.nodes_are ∙ sym nodes_are),
    );
  }

pub written_then_read : {S J : Type 0} (solid_kind : Ghosts S) (joint_kind : Ghosts J) → ((x : S) → length (solid_kind.written x) ≡ solid_kind.LENGTH) → ((x : J) → length (joint_kind.written x) ≡ 4) → ToldApart solid_kind.written → ToldApart joint_kind.written → WrittenThenRead solid_kind joint_kind
written_then_read solid_kind joint_kind sized four solids_apart joints_apart make =
    written_back (format make solid_kind joint_kind) sized four solids_apart joints_apart
