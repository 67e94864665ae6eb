-- The records of a file's tables. Assumes nothing.
use Rattle.std.specs.Prelude.{ℕ, ◌+◌, ◌*◌, ◌<◌, List, map, take, drop, ◌≢◌}
use Rattle.std.specs.List.{range_with_len}

-- the bytes from a place on, `len` of them
abbrev pub part : ℕ → ℕ → List ℕ → List ℕ
part start len bytes = take len (drop start bytes)

-- record i of a table that begins at `start` and has records of `size` bytes
abbrev pub row : List ℕ → ℕ → ℕ → ℕ → List ℕ
row bytes start size i = take size (drop (start + size * i) bytes)

-- its first n records
abbrev pub rows : List ℕ → ℕ → ℕ → ℕ → List (List ℕ)
rows bytes start size n = map (row bytes start size) (range_with_len 0 n)

-- n is the first place below `limit` of which P holds
pub record First (P : ℕ → Type 0) (limit n : ℕ) : Type 0 where
  pub within : n < limit
  pub here : P n
  pub before : (k : ℕ) → k < n → P k → ⊥

-- no value is written so
abbrev pub Nobodys : {X : Type 0} → (X → List ℕ) → List ℕ → Type 0
Nobodys {X = X} written bytes = (x : X) → written x ≢ bytes
