use Rattle.std.proofs.Common.{◌≡◌, drop}
use Rattle.std.specs.List.{find}
use Rattle.topology.specs.Groups.{is_shared, kind_at, shared_subnet}
use Rattle.topology.proofs.groups.shared_subnet.Given as goal

abbrev pub invariant-loop-subnet : goal.invariant-loop-subnet
invariant-loop-subnet l = shared_subnet l.ports ≡ find (λ subnet. is_shared (kind_at l.ports subnet)) (drop l.subnet-index l.subnets)
