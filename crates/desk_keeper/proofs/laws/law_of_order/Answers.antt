use Rattle.desk_keeper.proofs.OrderLemmas.{valid_in_order}
use Rattle.desk_keeper.proofs.laws.law_of_order.Goals as goal

pub returns : goal.returns
returns c = valid_in_order
