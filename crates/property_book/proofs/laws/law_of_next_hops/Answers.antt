use Rattle.property_book.proofs.StepLemmas.{hops_go_along_arcs, others_go_by_hops}
use Rattle.property_book.proofs.laws.law_of_next_hops.Goals as goal

pub returns-clause-hops : goal.returns-clause-hops
returns-clause-hops c = others_go_by_hops

pub returns-clause-arcs : goal.returns-clause-arcs
returns-clause-arcs c = hops_go_along_arcs
