use Rattle.ospf_paths.specs.OnTheWay.{Passed}
use Rattle.ospf_paths.proofs.least_sums.pass.Given as goal

abbrev pub invariant-loop-link : goal.invariant-loop-link
invariant-loop-link l = Passed l.net l.failed l.fn.distances l.distances l.changed 0 l.link
