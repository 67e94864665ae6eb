use Rattle.std.proofs.Common.{add-one}
use Rattle.space.proofs.Roots.{root_unique}
use Rattle.space.proofs.root.floor_root.Goals as goal

pub returns-then-n-guess : goal.returns-then-n-guess
returns-then-n-guess c = root_unique _ _ (c.if-guess-n.true, simp add-one at c.if-n-guess.true)

pub returns-else-guess-lt65535 : goal.returns-else-guess-lt65535
returns-else-guess-lt65535 c = root_unique _ _ (c.isqrt.ensures.square_le, simp add-one at c.isqrt.ensures.next_square_gt)
