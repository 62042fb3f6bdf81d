use Rattle.concrete_algebra.proofs.RoutingLemmas.{networks_route}
use Rattle.concrete_algebra.proofs.laws.law_of_routing.Goals as goal

pub returns : goal.returns
returns c = networks_route
