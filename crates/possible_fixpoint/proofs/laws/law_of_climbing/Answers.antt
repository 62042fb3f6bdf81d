use Rattle.possible_fixpoint.proofs.ClimbLemmas.{fed_reach, flow_lengthens}
use Rattle.possible_fixpoint.proofs.laws.law_of_climbing.Goals as goal

pub returns-clause-flow : goal.returns-clause-flow
returns-clause-flow c = flow_lengthens

pub returns-clause-fed : goal.returns-clause-fed
returns-clause-fed c = fed_reach
