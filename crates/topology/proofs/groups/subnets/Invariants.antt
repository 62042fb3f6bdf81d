use Rattle.std.proofs.Common.{◌≡◌, ◌++◌, drop, map}
use Rattle.std.specs.List.{filter}
use Rattle.topology.specs.Live.{can_link}
use Rattle.topology.proofs.groups.subnets.Given as goal

abbrev pub invariant-loop-port : goal.invariant-loop-port
invariant-loop-port l = l.all.items ++ map (λ port. port.subnet) (filter (λ port. can_link port.loopback port.subnet) (drop l.port-index l.ports)) ≡ map (λ port. port.subnet) (filter (λ port. can_link port.loopback port.subnet) l.ports)
