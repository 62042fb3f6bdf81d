use Rattle.std.proofs.Common.{◌≡◌, map, take}
use Rattle.topology.proofs.owning.stub_prefixes.Given as goal

abbrev pub invariant-loop-port : goal.invariant-loop-port
invariant-loop-port l = l.all.items ≡ map (λ port. port.subnet) (take l.port-index l.stubs)
