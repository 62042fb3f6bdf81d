use Rattle.std.proofs.Common.{◌≡◌, false, drop}
use Rattle.topology.specs.Live.{same_host}
use Rattle.topology.specs.Pairs.{least_pair}
use Rattle.topology.specs.Network.{host_pair}
use Rattle.topology.proofs.twins.host_pair.Given as goal

abbrev pub invariant-loop-at : goal.invariant-loop-at
invariant-loop-at l = host_pair l.configs ≡ least_pair (λ _. false) same_host l.at (drop l.at l.configs)
