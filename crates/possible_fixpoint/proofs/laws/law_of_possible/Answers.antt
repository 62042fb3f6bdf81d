use Rattle.possible_fixpoint.proofs.FlowLemmas.{flow_is_lawful}
use Rattle.possible_fixpoint.proofs.LeastLemmas.{least_is_one, possible_is_least}
use Rattle.possible_fixpoint.specs.Flow.{flow_of}
use Rattle.possible_fixpoint.proofs.laws.law_of_possible.Goals as goal

pub returns-clause-least : goal.returns-clause-least
returns-clause-least c = possible_is_least

pub returns-clause-one : goal.returns-clause-one
returns-clause-one c = least_is_one

pub returns-clause-networks : goal.returns-clause-networks
returns-clause-networks c net prefix failed distances alive valid are =
    possible_is_least (flow_of net prefix failed distances alive) (flow_is_lawful net prefix failed distances alive valid are)
