use Rattle.std.proofs.Common.{◌≡◌, ◌++◌, drop, map}
use Rattle.topology.specs.Routers.{routers_from}
use Rattle.topology.proofs.routers.routers.Given as goal

abbrev pub invariant-loop-number : goal.invariant-loop-number
invariant-loop-number l = l.all.items ++ routers_from l.ports l.communities l.number (map (λ c. c.now) (drop l.number l.configs)) ≡ routers_from l.ports l.communities 0 (map (λ c. c.now) l.configs)
