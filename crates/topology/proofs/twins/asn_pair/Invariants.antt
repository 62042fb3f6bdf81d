use Rattle.std.proofs.Common.{◌≡◌, false, drop}
use Rattle.topology.specs.Live.{same_asn}
use Rattle.topology.specs.Pairs.{least_pair}
use Rattle.topology.specs.Network.{asn_pair}
use Rattle.topology.proofs.twins.asn_pair.Given as goal

abbrev pub invariant-loop-at : goal.invariant-loop-at
invariant-loop-at l = asn_pair l.configs ≡ least_pair (λ _. false) same_asn l.at (drop l.at l.configs)
