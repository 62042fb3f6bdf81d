use Rattle.abstract_route.proofs.BeatsLemmas.{beats_is_each, beats_is_exact, beats_of_routes, route_is_of}
use Rattle.abstract_route.proofs.laws.law_of_exact_beating.Goals as goal

pub returns-clause-worst : goal.returns-clause-worst
returns-clause-worst c = beats_is_exact

pub returns-clause-each : goal.returns-clause-each
returns-clause-each c = beats_is_each

pub returns-clause-routes : goal.returns-clause-routes
returns-clause-routes c = beats_of_routes

pub returns-clause-own : goal.returns-clause-own
returns-clause-own c = route_is_of
