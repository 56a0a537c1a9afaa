use Rattle.order_moments.proofs.MomentLaws.{orders_extend_precedence}
use Rattle.order_moments.proofs.laws.orders_extend_precedence.Goals as goal

pub returns : goal.returns
returns c = orders_extend_precedence
