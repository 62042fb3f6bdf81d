use Rattle.std.proofs.Common.{◌≡◌, ◌++◌, drop}
use Rattle.std.specs.List.{filter_map}
use Rattle.topology.specs.Groups.{wire_of, kind_at, wires}
use Rattle.topology.proofs.groups.wires.Given as goal

abbrev pub invariant-loop-subnet : goal.invariant-loop-subnet
invariant-loop-subnet l = l.all.items ++ filter_map (λ subnet. wire_of subnet (kind_at l.ports subnet)) (drop l.subnet-index l.subnets) ≡ wires l.ports
