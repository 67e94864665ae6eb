-- A kind of gauge whose readings are always exact keeps the laws. Assumes nothing.
use Rattle.std.proofs.Common.{ℤ, sym, refl, subst}
use Rattle.march.specs.Kept.{Kept}
use Rattle.march.specs.Laws.{GaugeLaws}
use Rattle.march.specs.Tells.{Tells}
use Rattle.space.specs.Laws.{DistanceLaw}
use Rattle.space.specs.Pt.{Pt}
use Rattle.gauges.specs.Exact.{ExactReads}

pub exact_laws : {G : Type 0} (holds : G → Type 0) (means : G → Pt → ℤ) → ((g : G) → holds g → DistanceLaw (means g)) → GaugeLaws holds means (ExactReads means)
exact_laws holds means near = record {
  near = near;
  kept = λ g h p x p_in start read. subst (Kept holds means g) (sym read.1) (record { holding = start; meaning = λ q. refl });
  tells = λ g h p x p_in start read. subst (λ y. Tells y (means g p)) (sym read.0) refl;
}
