-- What every reading keeps of a gauge. Assumes nothing.
use Rattle.std.specs.Prelude.{◌≡◌, ℤ}
use Rattle.space.specs.Pt.{Pt}

-- h holds what it must, and means what g means. It takes the members one by one, since the trait's own clauses have
-- no record of them.
pub record Kept {G : Type 0} (holds : G → Type 0) (means : G → Pt → ℤ) (g h : G) : Type 0 where
  pub holding : holds h
  pub meaning : (p : Pt) → means h p ≡ means g p
