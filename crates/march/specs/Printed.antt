-- What is printed of a march's end. Assumes nothing.
use Rattle.std.specs.Prelude.{ℕ, List, ◌++◌, codes, decimal}
use Rattle.march.specs.declared.outcome.Met.{Met}
use Rattle.std.specs.Fmt.{signed_decimal}

-- the bytes that a meeting is printed as
abbrev pub met_text : Met → List ℕ
met_text m = codes "met " ++ (decimal m.number ++ (codes " " ++ signed_decimal m.distance))
