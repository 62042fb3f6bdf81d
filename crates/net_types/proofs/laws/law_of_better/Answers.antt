use Rattle.net_types.proofs.BetterLemmas.{one_is_better, better_goes_on}
use Rattle.net_types.proofs.laws.law_of_better.Goals as goal

pub returns-clause-one : goal.returns-clause-one
returns-clause-one c = one_is_better

pub returns-clause-on : goal.returns-clause-on
returns-clause-on c = better_goes_on
