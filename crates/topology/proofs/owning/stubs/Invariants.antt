use Rattle.std.proofs.Common.{◌≡◌, ◌++◌, ◌==◌, ◌&&◌, drop}
use Rattle.std.specs.List.{filter}
use Rattle.topology.specs.Owning.{is_stub, stubs}
use Rattle.topology.proofs.owning.stubs.Given as goal

abbrev pub invariant-loop-port : goal.invariant-loop-port
invariant-loop-port l = l.all.items ++ filter (λ port. (port.router == l.router) && is_stub l.ports port) (drop l.port-index l.ports) ≡ stubs l.ports l.router
