use Rattle.net_types.proofs.OrderLemmas.{better_is_ahead}
use Rattle.net_types.proofs.laws.law_of_order.Goals as goal

pub returns : goal.returns
returns c = better_is_ahead
