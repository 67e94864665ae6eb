use Rattle.std.proofs.Common.{◌≡◌, ℕ, ◌||◌, List, [], ◌∷◌, map, refl, ap, ◌∙◌, rules, tests}
use Rattle.std.specs.List.{list_any}
use Rattle.std.proofs.lemmas.Iterator.{YieldsList-from_slice}
use Rattle.std.proofs.lemmas.Iterator.Search.{any_from_yields_List}
use Rattle.scene.specs.Used.{names, names_it}
use Rattle.tree.specs.Rows.{node_symbol}
use Rattle.tree.specs.declared.node.Node.{Node}
use Rattle.scenefile.proofs.order.some_named.Goals as goal

any_is : (solid : ℕ) (nodes : List Node) → list_any (λ x. names_it solid (node_symbol x)) nodes ≡ names solid (map node_symbol nodes)
any_is solid [] = refl
any_is solid (x ∷ nodes) = ap (λ b. names_it solid (node_symbol x) || b) (any_is solid nodes)

pub returns : goal.returns
returns c =
    any_from_yields_List (λ x. names_it c.args.solid (node_symbol x)) _ _ c.any.result c.any.ensures.ran (YieldsList-from_slice c.args.nodes.now cc) (λ x b q k. search (rules, tests))
    ∙ any_is c.args.solid c.args.nodes.now
