-- What comes of cutting a list down into a free part. Assumes nothing.
use Rattle.std.specs.Prelude.{◌≡◌, ℕ, ◌*◌, ◌<◌, ◌≤◌, List, map, length, take, drop, ℤ, Ok, Err, Result}
use Rattle.scene.specs.Lists.{Evaluable}
use Rattle.scene.specs.declared.pruned.Pruned.{Pruned}
use Rattle.space.specs.Pt.{Pt, InSpace, apart²}
use Rattle.space.specs.declared.refusal.Refusal.{Refusal}
use Rattle.space.specs.declared.refusal.Refusal.TheVariants.{Full}
use Rattle.tree.specs.Distance.{Distance}
use Rattle.tree.specs.Parts.{Parts}
use Rattle.tree.specs.Prune.{prune}
use Rattle.tree.specs.Rows.{entry_symbol}
use Rattle.tree.specs.Spell.{spell}
use Rattle.tree.specs.Tree.{Tree, value}
use Rattle.tree.specs.declared.node.Entry.{Entry}

-- the front of a free part is the list of the pruned tree, which is this long and has this value at the centre
pub record CutDown (P : Parts) (centre : Pt) (R : ℕ) (list free : List Entry) (r : Pruned) : Type 0 where
  pub tree : Tree
  pub spelled : spell tree ≡ map entry_symbol list
  pub entries : map entry_symbol (take r.length free) ≡ spell (prune P centre R tree)
  pub long : r.length ≡ length (spell (prune P centre R tree))
  pub at_centre : r.value ≡ value P (prune P centre R tree) centre

-- a free part that is shorter than the list is refused and left alone
abbrev pub PruneOutcome : Parts → Pt → ℕ → (list was is : List Entry) → Result Pruned Refusal → Type 0
PruneOutcome P centre R list was is (Ok r) = (length list ≤ length was) × CutDown P centre R list is r
PruneOutcome P centre R list was is (Err e) = (length was < length list) × (e ≡ Full) × (is ≡ was)

-- at every point within R of the centre the pruned list gives the distance that the list gives
abbrev pub SaysTheSame : Parts → Pt → ℕ → (list free : List Entry) → Result Pruned Refusal → Type 0
SaysTheSame P centre R list free (Ok r) =
    (p : Pt) (v : ℤ) → InSpace p → apart² centre p ≤ R * R
    → Distance P (map entry_symbol list) p v → Distance P (map entry_symbol (take r.length free)) p v
SaysTheSame P centre R list free (Err e) = Unit {0}

-- What is certain of the rest of the free part: it is as long as before, and from the list's length on it is as
-- before. Between the pruned list's end and there it may hold anything.
abbrev pub RestKept : (list was is : List Entry) → Type 0
RestKept list was is = (length is ≡ length was) × (drop (length list) is ≡ drop (length list) was)

-- the pruned list can be worked out and cut down in its turn
abbrev pub Again : (solids joints : ℕ) (free : List Entry) → Result Pruned Refusal → Type 0
Again solids joints free (Ok r) = Evaluable solids joints (map entry_symbol (take r.length free))
Again solids joints free (Err e) = Unit {0}
