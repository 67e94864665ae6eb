-- What comes of writing a file's bytes into an output. Assumes nothing.
use Rattle.std.specs.Prelude.{ℕ, cond, List, length, Ok, Err, Result, nat_le}
use Rattle.space.specs.declared.refusal.Refusal.{Refusal}
use Rattle.space.specs.declared.refusal.Refusal.TheVariants.{Output}

-- how many bytes were written, or the refusal of an output that is shorter than the file
abbrev pub written_length : List ℕ → List ℕ → Result ℕ Refusal
written_length file out = cond (nat_le (length file) (length out)) (Ok (length file)) (Err Output)
