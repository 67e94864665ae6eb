-- The answer at a point. Assumes nothing.
use Rattle.std.proofs.Common.{◌≡◌, List, ℤ, Ok, Result, ap, ◌∙◌, subst}
use Rattle.clearance.specs.Answers.{AnswersAt}
use Rattle.clearance.specs.declared.answer.Answer.TheVariants.{At}
use Rattle.space.specs.At.{pt_outcome}
use Rattle.space.specs.Pt.{Pt}
use Rattle.space.specs.declared.refusal.Refusal.{Refusal}
use Rattle.tree.specs.Distance.{Distance}
use Rattle.tree.specs.Parts.{Parts}
use Rattle.tree.specs.Spell.{Symbol}

-- the numbers that were passed are equal to those that were called for
pub answers_at : (x y z : ℤ) (P : Parts) (nodes : List Symbol) (p : Pt) (v w x' y' z' : ℤ) → Ok p ≡ pt_outcome x' y' z' → x' ≡ x → y' ≡ y → z' ≡ z → Distance P nodes p v → w ≡ v → AnswersAt P nodes (pt_outcome x y z) (Ok (At w))
answers_at x y z P nodes p v w x' y' z' e ex ey ez d same =
    subst
    (λ (o : Result Pt Refusal). AnswersAt P nodes o (Ok (At w)))
    (e ∙ (λ i. pt_outcome (ex i) (ey i) (ez i)))
    (v, d, ap (λ (n : ℤ). Ok (At n)) same)
