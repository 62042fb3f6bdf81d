use Rattle.desk_replies.proofs.OrderLemmas.{names_ascend}
use Rattle.desk_replies.proofs.laws.law_of_names.Goals as goal

pub returns : goal.returns
returns c = names_ascend
