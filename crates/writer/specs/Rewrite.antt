-- What comes of reading a file and writing it back into an output. Assumes nothing.
use Rattle.std.specs.Prelude.{◌≡◌, ℕ, ◌⊎◌, List, Err, Result}
use Rattle.records.specs.Format.{Format}
use Rattle.records.specs.Put.{put}
use Rattle.scenefile.specs.Checks.{Refused}
use Rattle.scenefile.specs.Load.{Held, Loaded, rooms_of}
use Rattle.scenefile.specs.declared.counts.Counts.{Counts}
use Rattle.scenefile.specs.declared.counts.Rooms.{Rooms}
use Rattle.space.specs.declared.refusal.Refusal.{Refusal}
use Rattle.writer.specs.Write.{written_length}

-- an accepted file has its old bytes in the output, if that is long enough; a refused one leaves it alone
abbrev pub Rewritten : {S J : Type 0} (f : Format S J) (bytes : List ℕ) (rooms : Rooms) (was is : List ℕ) → Result ℕ Refusal → Type 0
Rewritten f bytes rooms was is r =
    ((r ≡ written_length bytes was) × (is ≡ put bytes was))
    ⊎ ((e : Refusal) × (r ≡ Err e) × Refused f bytes rooms e × (is ≡ was))

-- What is left in the tables too: a file that no check refuses is loaded into them, and has its old bytes in the output,
-- if that is long enough. A refused file leaves tables and output alone.
module _ {S J : Type 0} (f : Format S J) (bytes : List ℕ) (was is : Held S J) (out_was out_is : List ℕ) (r : Result ℕ Refusal) where
  pub record Accepted : Type 0 where
    pub none_refuses : (e : Refusal) → Refused f bytes (rooms_of was) e → ⊥
    pub counts : Counts
    pub loaded : Loaded f bytes (rooms_of was) was is counts
    pub answer : r ≡ written_length bytes out_was
    pub after : out_is ≡ put bytes out_was

  pub record TurnedAway : Type 0 where
    pub refusal : Refusal
    pub refused : Refused f bytes (rooms_of was) refusal
    pub answer : r ≡ Err refusal
    pub tables : is ≡ was
    pub after : out_is ≡ out_was

  abbrev pub RewrittenByTables : Type 0
  RewrittenByTables = Accepted ⊎ TurnedAway
