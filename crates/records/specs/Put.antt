-- Bytes put over the front of an output. Assumes nothing.
use Rattle.std.specs.Prelude.{ℕ, cond, List, ◌++◌, length, drop, nat_le}

-- an output that has no room for them is left alone
abbrev pub put : List ℕ → List ℕ → List ℕ
put bytes out = cond (nat_le (length bytes) (length out)) (bytes ++ drop (length bytes) out) out
