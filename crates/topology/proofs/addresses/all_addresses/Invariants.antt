use Rattle.std.proofs.Common.{◌≡◌, map, take}
use Rattle.topology.specs.Addresses.{addresses_of}
use Rattle.topology.proofs.addresses.all_addresses.Given as goal

abbrev pub invariant-loop-config : goal.invariant-loop-config
invariant-loop-config l = l.all.items ≡ map (λ c. addresses_of c) (take l.config-index l.configs)
