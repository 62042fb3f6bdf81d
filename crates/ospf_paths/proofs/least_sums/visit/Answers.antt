use Rattle.ospf_paths.proofs.Passes.{bounded_small, lowered_visited, nothing_left, visited_bounded}
use Rattle.ospf_paths.proofs.least_sums.visit.Goals as goal

pub lower-requires-clause-small : goal.lower-requires-clause-small
lower-requires-clause-small c = bounded_small c.args.net.now c.valid.ensures c.args.distances.now c.requires.bounded

pub returns-in-Some : goal.returns-in-Some
returns-in-Some c =
    let visited = lowered_visited c.args.net.now c.args.failed.now c.args.arc c.in-Some.crossing.from c.in-Some.crossing.to c.in-Some.crossing.cost c.args.distances.now c.lower.new.distances c.lower.result c.in-Some.ensures c.lower.ensures in
    record { visited = visited; bounded = visited_bounded c.args.net.now c.valid.ensures c.args.failed.now c.args.arc c.args.distances.now c.lower.new.distances c.lower.result c.requires.bounded visited }

pub returns-in-None-clause-visited : goal.returns-in-None-clause-visited
returns-in-None-clause-visited c = nothing_left c.args.net.now c.args.failed.now c.args.arc c.args.distances.now c.in-None.ensures
