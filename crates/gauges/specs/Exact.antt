-- Readings that are always exact and move nothing. Assumes nothing.
use Rattle.std.specs.Prelude.{◌≡◌, ℤ}
use Rattle.march.specs.declared.reading.Reading.{Reading}
use Rattle.march.specs.declared.reading.Reading.TheVariants.{Exact}
use Rattle.space.specs.Pt.{Pt}

abbrev pub ExactReads : {G : Type 0} → (G → Pt → ℤ) → G → Pt → Reading → G → Type 0
ExactReads means g p r h = (r ≡ Exact (means g p)) × (h ≡ g)
