use Rattle.abstract_route.proofs.FitLemmas.{inhabited_is, inhabited_up}
use Rattle.abstract_route.proofs.OneRouteLemmas.{has_route}
use Rattle.abstract_route.proofs.laws.law_of_inhabited_rows.Goals as goal

pub returns-clause-test : goal.returns-clause-test
returns-clause-test c = inhabited_is

pub returns-clause-up : goal.returns-clause-up
returns-clause-up c = inhabited_up

pub returns-clause-route : goal.returns-clause-route
returns-clause-route c = has_route
