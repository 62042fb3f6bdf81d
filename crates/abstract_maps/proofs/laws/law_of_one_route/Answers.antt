use Rattle.abstract_maps.proofs.ExactLemmas.{sure_exact}
use Rattle.abstract_maps.proofs.KnownLemmas.{open_is_passes}
use Rattle.abstract_maps.proofs.MapLemmas.{map_exact}
use Rattle.abstract_maps.proofs.OneRouteArcs.{open_is_exact, passes_is_exact, transfer_exact}
use Rattle.abstract_maps.proofs.laws.law_of_one_route.Goals as goal

pub returns-clause-map : goal.returns-clause-map
returns-clause-map c = map_exact

pub returns-clause-sure : goal.returns-clause-sure
returns-clause-sure c = sure_exact

pub returns-clause-transfer : goal.returns-clause-transfer
returns-clause-transfer c = transfer_exact

pub returns-clause-passes : goal.returns-clause-passes
returns-clause-passes c = passes_is_exact

pub returns-clause-open : goal.returns-clause-open
returns-clause-open c = open_is_exact

pub returns-clause-known : goal.returns-clause-known
returns-clause-known c = open_is_passes
