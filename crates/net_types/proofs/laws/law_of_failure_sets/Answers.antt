use Rattle.net_types.proofs.NetLemmas.{without_holds_the_others, without_is_failure_set}
use Rattle.net_types.proofs.laws.law_of_failure_sets.Goals as goal

pub returns-clause-others : goal.returns-clause-others
returns-clause-others c = without_holds_the_others

pub returns-clause-valid : goal.returns-clause-valid
returns-clause-valid c = without_is_failure_set
