use Rattle.std.proofs.Common.{◌≡◌, ◌++◌, drop}
use Rattle.ospf_paths.specs.OnTheWay.{stub_costs}
use Rattle.ospf_paths.proofs.least_sums.stub_costs.Given as goal

abbrev pub invariant-loop-router : goal.invariant-loop-router
invariant-loop-router l = l.costs.items ++ stub_costs l.prefix (drop l.router-index l.routers) ≡ stub_costs l.prefix l.routers
