use Rattle.net_types.specs.PrefixValue.{PrefixValue}
use Rattle.ospf_paths.specs.OnTheWay.{AreBounded, AreSums, weight}
use Rattle.ospf_paths.proofs.least_sums.settle.Given as goal

abbrev pub invariant-loop : goal.invariant-loop
invariant-loop l = record {
  bounded : AreBounded l.net l.distances;
  sums : (prefix : PrefixValue) → AreSums l.net prefix l.failed l.fn.distances → AreSums l.net prefix l.failed l.distances;
}

abbrev pub decreases-loop : goal.decreases-loop
decreases-loop l = weight l.distances
