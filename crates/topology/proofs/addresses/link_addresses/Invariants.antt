use Rattle.std.proofs.Common.{◌≡◌, ◌++◌, drop}
use Rattle.std.specs.List.{filter_map}
use Rattle.topology.specs.Live.{link_address}
use Rattle.topology.specs.Addresses.{link_addresses}
use Rattle.topology.proofs.addresses.link_addresses.Given as goal

abbrev pub invariant-loop-interface : goal.invariant-loop-interface
invariant-loop-interface l = l.all.items ++ filter_map (λ interface. link_address interface) (drop l.interface-index l.config.interfaces) ≡ link_addresses l.config
