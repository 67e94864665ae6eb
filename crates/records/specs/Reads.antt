-- What it is to read a record. Assumes nothing.
use Rattle.std.specs.Prelude.{◌≡◌, Some, None, Option, ◌≢◌}

-- by how each value is written: the value that is written so, or none where no value is
abbrev pub Reads : {X Y : Type 0} → (X → Y) → Y → Option X → Type 0
Reads record_of written (Some x) = record_of x ≡ written
Reads {X = X} record_of written None = (x : X) → record_of x ≢ written
