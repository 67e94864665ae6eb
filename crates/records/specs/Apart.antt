-- Two values with one record are one value. Assumes nothing.
use Rattle.std.specs.Prelude.{◌≡◌, ℕ, ◌+◌, ◌-◌, ◌*◌, ◌<◌, ◌≤◌, Bool, true, false, cond, ◌≢◌, length, get_or, ℤ, ◌==◌, nat_eq, slice_index, slice_index_or, unsigned_abs, refl}
use Rattle.std.proofs.Math.Bridge.{le_prop}
use Rattle.std.proofs.Common.{arith, ap, sym, ◌∙◌}
use mathlib.Core.HLevel.{is_prop→PathP}
use Rattle.std.specs.Coded.{coded_ℕ, coded_bool}
use denote.Struct.Props.{≡_prop, props}
use Rattle.std.proofs.lemmas.List.{ext_get_or}
use Rattle.space.specs.At.{at}
use Rattle.space.specs.Pt.{InRange}
use Rattle.space.specs.declared.point.Point.{Point}
use Rattle.joints.specs.declared.house.HouseJoint.{HouseJoint}
use Rattle.joints.specs.declared.house.HouseJoint.TheVariants.{Sharp, Rounded}
use Rattle.joints.specs.declared.radius.Radius.{Radius}
use Rattle.joints.specs.declared.soft.SoftJoint.{SoftJoint}
use Rattle.solids.specs.AxisNumber.{axis_number}
use Rattle.solids.specs.Normal.{normal²}
use Rattle.solids.specs.Unused.{unused_at_origin}
use Rattle.solids.specs.declared.catalogue.Axis.{Axis}
use Rattle.solids.specs.declared.catalogue.Axis.TheVariants.{X, Y, Z}
use Rattle.solids.specs.declared.catalogue.Ball as ball
use Rattle.solids.specs.declared.catalogue.Block as block
use Rattle.solids.specs.declared.catalogue.CatalogueSolid.{CatalogueSolid}
use Rattle.solids.specs.declared.catalogue.CatalogueSolid.TheVariants.{Ball, Block, Plane, Drum}
use Rattle.solids.specs.declared.catalogue.Drum as drum
use Rattle.solids.specs.declared.catalogue.Plane as plane
use Rattle.solids.specs.declared.probed.Probed.{Probed}
use Rattle.tree.specs.KindNumber.{kind_number}
use Rattle.tree.specs.declared.node.Node.{Node}
use Rattle.tree.specs.declared.node.NodeKind.{NodeKind}
use Rattle.tree.specs.declared.node.NodeKind.TheVariants.{Solid, Union, Common, Cut}
use Rattle.records.specs.Catalogue.{ball_fields, block_fields, plane_fields, drum_fields, centre_field, raw_of, catalogue_record}
use Rattle.records.specs.Elements.{elements}
use Rattle.records.specs.Joint.{raw_joint_record, house_fields, soft_fields, house_record, soft_record}
use Rattle.records.specs.Node.{node_record}
use Rattle.records.specs.Point.{origin}
use Rattle.records.specs.Probed.{probed_record}
use Rattle.records.specs.declared.joint.RawJoint.{RawJoint}
use Rattle.records.specs.declared.raw.RawSolid.{RawSolid}
use Rattle.records.specs.Centres.{centre_at}
use Rattle.records.specs.Digits.{two_digits}
use Rattle.records.specs.Fields.{raw_same, fit_of}
use Rattle.records.specs.Points.{pt_same, point_fits}

-- ---- nodes
abbrev kind_of : ℕ → NodeKind
kind_of n = cond (n == 1) Solid (cond (n == 2) Union (cond (n == 3) Common Cut))

kind_back : (k : NodeKind) → kind_of (kind_number k) ≡ k
kind_back Solid = refl
kind_back Union = refl
kind_back Common = refl
kind_back Cut = refl

turned_back : (b : Bool) → (cond b 1 0 == 1) ≡ b
turned_back true = refl
turned_back false = refl

pub node_apart : (m n : Node) → node_record m ≡ node_record n → m ≡ n
node_apart m n e =
    let byte : (i : ℕ) → slice_index (node_record m) i ≡ get_or (node_record n) i 0 = λ i. ap (λ xs. slice_index xs i) e in
    λ i. record {
      kind = (sym (kind_back m.kind) ∙ ap kind_of (byte 0) ∙ kind_back n.kind) i;
      turned = (sym (turned_back m.turned) ∙ ap (λ b. nat_eq b 1) (byte 1) ∙ turned_back n.turned) i;
      number = two_digits m.number n.number (byte 2) (byte 3) i;
    }

-- ---- joints
raw_joint_apart : (a b : RawJoint) → raw_joint_record a ≡ raw_joint_record b → a ≡ b
raw_joint_apart a b e =
    let byte : (i : ℕ) → slice_index (raw_joint_record a) i ≡ get_or (raw_joint_record b) i 0 = λ i. ap (λ xs. slice_index xs i) e in
    λ i. record {
      form = two_digits a.form b.form (byte 0) (byte 1) i;
      k = two_digits a.k b.k (byte 2) (byte 3) i;
    }

radius_apart : (r s : Radius) → r.k ≡ s.k → r ≡ s
radius_apart r s e = λ i. record {
  k = e i;
  positive = is_prop→PathP (λ j. 1 ≤ e j) (λ j. le_prop) r.positive s.positive i;
  limited = is_prop→PathP (λ j. e j ≤ 2048) (λ j. le_prop) r.limited s.limited i;
}

other_form : (i j : HouseJoint) → (house_fields i).form ≢ (house_fields j).form → house_fields i ≡ house_fields j → i ≡ j
other_form i j ne e = absurd (ne (ap (λ (f : RawJoint). f.form) e))

house_fields_apart : (i j : HouseJoint) → house_fields i ≡ house_fields j → i ≡ j
house_fields_apart Sharp Sharp e = refl
house_fields_apart Sharp (Rounded s) e = other_form Sharp (Rounded s) (omega arith) e
house_fields_apart (Rounded r) Sharp e = other_form (Rounded r) Sharp (omega arith) e
house_fields_apart (Rounded r) (Rounded s) e = ap Rounded (radius_apart r s (ap (λ (f : RawJoint). f.k) e))

pub house_apart : (i j : HouseJoint) → house_record i ≡ house_record j → i ≡ j
house_apart i j e = house_fields_apart i j (raw_joint_apart (house_fields i) (house_fields j) e)

pub soft_apart : (i j : SoftJoint) → soft_record i ≡ soft_record j → i ≡ j
soft_apart i j e =
    let k = ap (λ (f : RawJoint). f.k) (raw_joint_apart (soft_fields i) (soft_fields j) e) in
    λ n. record { 0 = radius_apart i.0 j.0 k n }

-- ---- points
in_range_prop : (a : ℤ) → IsProp (InRange a)
in_range_prop a = hlevel props

pub point_apart : (p q : Point) → at p ≡ at q → p ≡ q
point_apart p q e = λ i. record {
  x = (e i).x;
  y = (e i).y;
  z = (e i).z;
  x_in = is_prop→PathP (λ j. InRange (e j).x) (λ j. in_range_prop (e j).x) p.x_in q.x_in i;
  y_in = is_prop→PathP (λ j. InRange (e j).y) (λ j. in_range_prop (e j).y) p.y_in q.y_in i;
  z_in = is_prop→PathP (λ j. InRange (e j).z) (λ j. in_range_prop (e j).z) p.z_in q.z_in i;
}

-- ---- catalogue solids
ball_apart : (s t : ball.Ball) → ball_fields s ≡ ball_fields t → s ≡ t
ball_apart s t e = λ i. record {
  centre = point_apart s.centre t.centre (ap centre_field e) i;
  radius = (e i).r;
  radius_in = is_prop→PathP (λ j. (e j).r ≤ 8192) (λ j. le_prop) s.radius_in t.radius_in i;
}

block_apart : (s t : block.Block) → block_fields s ≡ block_fields t → s ≡ t
block_apart s t e = λ i. record {
  centre = point_apart s.centre t.centre (ap centre_field e) i;
  half_x = (e i).h0;
  half_y = (e i).h1;
  half_z = (e i).h2;
  radius = (e i).r;
  half_x_in = is_prop→PathP (λ j. (e j).h0 ≤ 8192) (λ j. le_prop) s.half_x_in t.half_x_in i;
  half_y_in = is_prop→PathP (λ j. (e j).h1 ≤ 8192) (λ j. le_prop) s.half_y_in t.half_y_in i;
  half_z_in = is_prop→PathP (λ j. (e j).h2 ≤ 8192) (λ j. le_prop) s.half_z_in t.half_z_in i;
  radius_in = is_prop→PathP (λ j. (e j).r ≤ 8192) (λ j. le_prop) s.radius_in t.radius_in i;
}

plane_apart : (s t : plane.Plane) → plane_fields s ≡ plane_fields t → s ≡ t
plane_apart s t e = λ i. record {
  normal_x = (e i).x;
  normal_y = (e i).y;
  normal_z = (e i).z;
  offset = (e i).d;
  «length» = (e i).r;
  normal_x_in = is_prop→PathP (λ j. unsigned_abs (e j).x ≤ 4096) (λ j. le_prop) s.normal_x_in t.normal_x_in i;
  normal_y_in = is_prop→PathP (λ j. unsigned_abs (e j).y ≤ 4096) (λ j. le_prop) s.normal_y_in t.normal_y_in i;
  normal_z_in = is_prop→PathP (λ j. unsigned_abs (e j).z ≤ 4096) (λ j. le_prop) s.normal_z_in t.normal_z_in i;
  not_zero = is_prop→PathP (λ j. 0 < normal² (e j).x (e j).y (e j).z) (λ j. le_prop) s.not_zero t.not_zero i;
  long_enough =
      is_prop→PathP (λ j. normal² (e j).x (e j).y (e j).z ≤ (e j).r * (e j).r) (λ j. le_prop) s.long_enough t.long_enough i;
  least =
      is_prop→PathP (λ j. ((e j).r - 1) * ((e j).r - 1) < normal² (e j).x (e j).y (e j).z) (λ j. le_prop) s.least t.least i;
  offset_in = is_prop→PathP (λ j. unsigned_abs (e j).d ≤ 16384 * (e j).r) (λ j. le_prop) s.offset_in t.offset_in i;
}

abbrev axis_of : ℕ → Axis
axis_of n = cond (n == 0) X (cond (n == 1) Y Z)

axis_back : (a : Axis) → axis_of (axis_number a) ≡ a
axis_back X = refl
axis_back Y = refl
axis_back Z = refl

drum_apart : (s t : drum.Drum) → drum_fields s ≡ drum_fields t → s ≡ t
drum_apart s t e = λ i. record {
  centre = point_apart s.centre t.centre (ap centre_field e) i;
  radius = (e i).r;
  half_height = (e i).h0;
  axis = (sym (axis_back s.axis) ∙ ap (λ (f : RawSolid). axis_of f.h1) e ∙ axis_back t.axis) i;
  radius_in = is_prop→PathP (λ j. (e j).r ≤ 8192) (λ j. le_prop) s.radius_in t.radius_in i;
  half_height_in = is_prop→PathP (λ j. (e j).h0 ≤ 8192) (λ j. le_prop) s.half_height_in t.half_height_in i;
}

other_kind : (s t : CatalogueSolid) → (raw_of s).kind ≢ (raw_of t).kind → raw_of s ≡ raw_of t → s ≡ t
other_kind s t ne e = absurd (ne (ap (λ (f : RawSolid). f.kind) e))

fields_apart : (s t : CatalogueSolid) → raw_of s ≡ raw_of t → s ≡ t
fields_apart (Ball s) (Ball t) e = ap Ball (ball_apart s t e)
fields_apart (Ball s) (Block t) e = other_kind (Ball s) (Block t) (omega arith) e
fields_apart (Ball s) (Plane t) e = other_kind (Ball s) (Plane t) (omega arith) e
fields_apart (Ball s) (Drum t) e = other_kind (Ball s) (Drum t) (omega arith) e
fields_apart (Block s) (Ball t) e = other_kind (Block s) (Ball t) (omega arith) e
fields_apart (Block s) (Block t) e = ap Block (block_apart s t e)
fields_apart (Block s) (Plane t) e = other_kind (Block s) (Plane t) (omega arith) e
fields_apart (Block s) (Drum t) e = other_kind (Block s) (Drum t) (omega arith) e
fields_apart (Plane s) (Ball t) e = other_kind (Plane s) (Ball t) (omega arith) e
fields_apart (Plane s) (Block t) e = other_kind (Plane s) (Block t) (omega arith) e
fields_apart (Plane s) (Plane t) e = ap Plane (plane_apart s t e)
fields_apart (Plane s) (Drum t) e = other_kind (Plane s) (Drum t) (omega arith) e
fields_apart (Drum s) (Ball t) e = other_kind (Drum s) (Ball t) (omega arith) e
fields_apart (Drum s) (Block t) e = other_kind (Drum s) (Block t) (omega arith) e
fields_apart (Drum s) (Plane t) e = other_kind (Drum s) (Plane t) (omega arith) e
fields_apart (Drum s) (Drum t) e = ap Drum (drum_apart s t e)

pub catalogue_apart : (s t : CatalogueSolid) → catalogue_record s ≡ catalogue_record t → s ≡ t
catalogue_apart s t e = fields_apart s t (raw_same (raw_of s) (raw_of t) (fit_of s) (fit_of t) e)

-- ---- probed solids
module _ (s t : Probed) (e : probed_record s ≡ probed_record t) where
  byte : (i : ℕ) → slice_index (probed_record s) i ≡ slice_index (probed_record t) i
  byte i = ap (λ xs. slice_index xs i) e

  centre_same : (k : ℕ) → k < 8 → slice_index_or s.centres k origin ≡ slice_index_or t.centres k origin
  centre_same k lt =
      let p = get_or s.centres k origin in
      let q = get_or t.centres k origin in
      let bytes = centre_at s k lt ∙ ap (elements (4 + 6 * k) 6) e ∙ sym (centre_at t k lt) in
      point_apart p q (pt_same (at p) (at q) (point_fits p) (point_fits q) bytes)

  centres_same : s.centres ≡ t.centres
  centres_same =
      ext_get_or origin s.centres t.centres
      (s.eight ∙ sym t.eight)
      (λ k h. centre_same k (omega (arith, s.eight)))

  pub probed_apart : s ≡ t
  probed_apart =
      let n = two_digits s.count t.count (byte 0) (byte 1) in
      let r = two_digits s.radius t.radius (byte 2) (byte 3) in
      let cs = centres_same in
      λ i. record {
        centres = cs i;
        count = n i;
        radius = r i;
        eight = is_prop→PathP (λ j. length (cs j) ≡ 8) (λ j. ≡_prop coded_ℕ _ _) s.eight t.eight i;
        some = is_prop→PathP (λ j. 1 ≤ n j) (λ j. le_prop) s.some t.some i;
        count_in = is_prop→PathP (λ j. n j ≤ 8) (λ j. le_prop) s.count_in t.count_in i;
        radius_in = is_prop→PathP (λ j. r j ≤ 1024) (λ j. le_prop) s.radius_in t.radius_in i;
        unused =
            is_prop→PathP (λ j. unused_at_origin (n j) (cs j) ≡ true) (λ j. ≡_prop coded_bool _ _) s.unused t.unused i;
      }
