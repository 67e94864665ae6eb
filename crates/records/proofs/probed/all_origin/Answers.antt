use Rattle.std.proofs.Common.{◌≡◌, ◌&&◌, List, [], ◌∷◌, refl, ap, ◌∙◌, rules, tests}
use Rattle.std.specs.List.{list_all}
use Rattle.std.proofs.lemmas.Iterator.{YieldsList-from_slice}
use Rattle.std.proofs.lemmas.Iterator.Search.{all_from_yields_List}
use Rattle.space.specs.declared.point.Point.{Point}
use Rattle.solids.specs.Unused.{is_origin, all_origin}
use Rattle.records.proofs.probed.all_origin.Goals as goal

all_are : (cs : List Point) → list_all is_origin cs ≡ all_origin cs
all_are [] = refl
all_are (p ∷ cs) = ap (λ b. is_origin p && b) (all_are cs)

pub returns : goal.returns
returns c =
    all_from_yields_List is_origin _ _ c.all.result c.all.ensures.ran (YieldsList-from_slice c.args.centres.now cc) (λ x b q k. search (rules, tests))
    ∙ all_are c.args.centres.now
