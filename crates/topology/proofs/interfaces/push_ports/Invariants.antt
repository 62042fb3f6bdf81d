use Rattle.std.proofs.Common.{◌≡◌, ◌++◌, drop}
use Rattle.std.specs.List.{filter_map}
use Rattle.topology.specs.Live.{port_of, ports_of}
use Rattle.topology.proofs.interfaces.push_ports.Given as goal

abbrev pub invariant-loop-interface : goal.invariant-loop-interface
invariant-loop-interface l = l.all.items ++ filter_map (λ interface. port_of l.router l.config interface) (drop l.interface-index l.interface-items) ≡ l.fn.all.items ++ ports_of l.router l.config
