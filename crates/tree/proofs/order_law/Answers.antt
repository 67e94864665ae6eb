use Rattle.tree.proofs.Orders.{order_law}
use Rattle.tree.proofs.order_law.Goals as goal

pub returns : goal.returns
returns c = order_law
