use Rattle.possible_fixpoint.proofs.FlowLemmas.{flow_is_lawful}
use Rattle.possible_fixpoint.proofs.laws.law_of_flow.Goals as goal

pub returns : goal.returns
returns c = flow_is_lawful
