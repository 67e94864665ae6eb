-- Reading in two stages. Assumes nothing.
use Rattle.std.proofs.Common.{◌≡◌, Some, None, Option, ap, ◌∙◌}
use Rattle.records.specs.Reads.{Reads}

-- what is read of y is read of z, if y is the only value of the first stage that z can hold
module _ {X Y Z : Type 0} (f : X → Y) (g : Y → Z) (y : Y) (z : Z) (is : g y ≡ z) (only : (x : X) → g (f x) ≡ z → f x ≡ y) where
  pub reads_through : (r : Option X) → Reads f y r → Reads (λ x. g (f x)) z r
  reads_through (Some x) e = ap g e ∙ is
  reads_through None no_x = λ x e. no_x x (only x e)
