use Rattle.abstract_route.proofs.OneRouteLemmas.{local_is_in, learned_is_in}
use Rattle.abstract_route.proofs.laws.law_of_containing.Goals as goal

pub returns-clause-local : goal.returns-clause-local
returns-clause-local c = local_is_in

pub returns-clause-learned : goal.returns-clause-learned
returns-clause-learned c = learned_is_in
