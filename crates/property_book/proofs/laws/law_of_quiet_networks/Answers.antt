use Rattle.property_book.proofs.QuietLemmas.{local_routes_are_stable, none_learned, some_are_stable}
use Rattle.property_book.proofs.laws.law_of_quiet_networks.Goals as goal

pub returns-clause-labels : goal.returns-clause-labels
returns-clause-labels c = local_routes_are_stable

pub returns-clause-some : goal.returns-clause-some
returns-clause-some c = some_are_stable

pub returns-clause-learned : goal.returns-clause-learned
returns-clause-learned c = none_learned
