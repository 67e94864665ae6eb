-- What comes of a descent from a near cell. Assumes nothing.
use Rattle.std.specs.Prelude.{◌≡◌, ℕ, ◌<◌, ◌≤◌, cond, List, map, length, take, ℤ, Some, None, Ok, Err, Option, Result}
use Rattle.cells.specs.Cells.{Cube, In}
use Rattle.descent.specs.declared.child.Child.{Child}
use Rattle.descent.specs.declared.child.Child.TheVariants.{Near, Far}
use Rattle.paths.specs.Held.{Held, near, far, descended}
use Rattle.scene.specs.Lists.{Evaluable}
use Rattle.space.specs.Bound.{Bound}
use Rattle.space.specs.Pt.{Pt}
use Rattle.space.specs.declared.refusal.Refusal.{Refusal}
use Rattle.space.specs.declared.refusal.Refusal.TheVariants.{Full}
use Rattle.tree.specs.Distance.{Distance}
use Rattle.tree.specs.Far.{is_far, far_constant}
use Rattle.tree.specs.Parts.{Parts}
use Rattle.tree.specs.Rows.{entry_symbol}
use Rattle.tree.specs.Spell.{spell}
use Rattle.tree.specs.Tree.{Tree}
use Rattle.tree.specs.declared.node.Entry.{Entry}

-- the constant of a cell that is far by the value d at its centre
abbrev pub far_mark : (C R : ℕ) → ℤ → Option ℤ
far_mark C R d = cond (is_far C R d) (Some (far_constant R d)) None

-- what the child holds is what is answered: a near one's list is the front of the free part, a far one has its
-- constant and no entries
abbrev pub Answers : Held → (free : List Entry) → Child → Type 0
Answers (near t) free (Near n) = (map entry_symbol (take n free) ≡ spell t) × (n ≡ length (spell t))
Answers (near t) free (Far v) = ⊥
Answers (far c) free (Near n) = ⊥
Answers (far c) free (Far v) = v ≡ c

-- the list spells one tree, and a descent with it leads to the child
pub record Descends (P : Parts) (C : ℕ) (child : Cube) (list free : List Entry) (r : Child) : Type 0 where
  pub tree : Tree
  pub spelled : spell tree ≡ map entry_symbol list
  pub answers : Answers (descended P C child (near tree)) free r

-- a free part that is shorter than the list is refused and left alone
abbrev pub DescentOutcome : Parts → (C : ℕ) → Cube → (list was is : List Entry) → Result Child Refusal → Type 0
DescentOutcome P C child list was is (Ok r) = (length list ≤ length was) × Descends P C child list is r
DescentOutcome P C child list was is (Err e) = (length was < length list) × (e ≡ Full) × (is ≡ was)

-- what is answered says of a distance v: a near child's list gives it, a far child's constant is a bound of it
abbrev pub Tells : Parts → (free : List Entry) → Child → Pt → ℤ → Type 0
Tells P free (Near n) p v = Distance P (map entry_symbol (take n free)) p v
Tells P free (Far c) p v = Bound c v

-- at every point of the child it says what the list says
abbrev pub ChildSays : Parts → (C : ℕ) → Cube → (list free : List Entry) → Result Child Refusal → Type 0
ChildSays P C child list free (Ok r) = 2 ≤ C → (p : Pt) (v : ℤ) → In child p → Distance P (map entry_symbol list) p v → Tells P free r p v
ChildSays P C child list free (Err e) = Unit {0}

-- a near child's list lies in the free part, and can be worked out and cut down in its turn
abbrev pub ReadyAgain : (solids joints : ℕ) (free : List Entry) → Result Child Refusal → Type 0
ReadyAgain solids joints free (Ok (Near n)) = (n ≤ length free) × Evaluable solids joints (map entry_symbol (take n free))
ReadyAgain solids joints free (Ok (Far v)) = Unit {0}
ReadyAgain solids joints free (Err e) = Unit {0}
