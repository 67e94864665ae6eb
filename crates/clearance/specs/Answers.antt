-- What a scene answers to a call, from its parts and its node symbols. Assumes nothing.
use Rattle.std.specs.Prelude.{◌≡◌, ℕ, List, ◌++◌, ℤ, Some, None, Ok, Err, codes, decimal, Option, Result}
use Rattle.clearance.specs.declared.answer.Answer.{Answer}
use Rattle.clearance.specs.declared.answer.Answer.TheVariants.{At}
use Rattle.clearance.specs.declared.answer.Fault.{Fault}
use Rattle.clearance.specs.declared.answer.Fault.TheVariants.{No, Bad}
use Rattle.clearance.specs.declared.call.Call as call
use Rattle.clearance.specs.declared.call.Call.{Call}
use Rattle.space.specs.At.{pt_outcome}
use Rattle.space.specs.Pt.{Pt}
use Rattle.space.specs.Refusals.{number, place}
use Rattle.space.specs.declared.refusal.Refusal.{Refusal}
use Rattle.std.specs.Fmt.{signed_decimal}
use Rattle.tree.specs.Distance.{Distance}
use Rattle.tree.specs.Parts.{Parts}
use Rattle.tree.specs.Spell.{Symbol}

-- the distance at a point, or the refusal of the three numbers
abbrev pub AnswersAt : Parts → List Symbol → Result Pt Refusal → Result Answer Fault → Type 0
AnswersAt P nodes (Ok p) r = (v : ℤ) × Distance P nodes p v × (r ≡ Ok (At v))
AnswersAt P nodes (Err e) r = r ≡ Err (No e)

-- what is answered to a line that makes this call, or none
abbrev pub Answers : Parts → List Symbol → Option Call → Result Answer Fault → Type 0
Answers P nodes None r = r ≡ Err Bad
Answers P nodes (Some (call.TheVariants.Distance x y z)) r = AnswersAt P nodes (pt_outcome x y z) r

-- the bytes that an answer and a fault are printed as
abbrev pub answer_text : Answer → List ℕ
answer_text (At v) = codes "at " ++ signed_decimal v

abbrev pub fault_text : Fault → List ℕ
fault_text (No e) = codes "no " ++ (decimal (number e) ++ (codes " " ++ decimal (place e)))
fault_text Bad = codes "bad"
