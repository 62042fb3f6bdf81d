use Rattle.std.proofs.Common.{◌≡◌, ◌++◌, drop, map}
use Rattle.topology.specs.Live.{ports_from}
use Rattle.topology.proofs.interfaces.ports.Given as goal

abbrev pub invariant-loop-router : goal.invariant-loop-router
invariant-loop-router l = l.all.items ++ ports_from l.router (map (λ c. c.now) (drop l.router l.configs)) ≡ ports_from 0 (map (λ c. c.now) l.configs)
