-- What comes of the output alone, by what comes of tables and output. Assumes nothing.
use Rattle.std.proofs.Common.{ℕ, List, Result, inl, inr}
use Rattle.records.specs.Format.{Format}
use Rattle.scenefile.specs.Load.{Held, rooms_of}
use Rattle.space.specs.declared.refusal.Refusal.{Refusal}
use Rattle.writer.specs.Rewrite.{Rewritten, RewrittenByTables}

module _ {S J : Type 0} (f : Format S J) (bytes : List ℕ) (was is : Held S J) (out_was out_is : List ℕ) (r : Result ℕ Refusal) where
  pub output_of : RewrittenByTables f bytes was is out_was out_is r → Rewritten f bytes (rooms_of was) out_was out_is r
  output_of (inl it) = inl (it.answer, it.after)
  output_of (inr it) = inr (it.refusal, it.answer, it.refused, it.after)
