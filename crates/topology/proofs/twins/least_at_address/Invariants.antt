use Rattle.std.proofs.Common.{◌≡◌, drop}
use Rattle.topology.specs.Addresses.{repeats, share_one}
use Rattle.topology.specs.Pairs.{least_pair}
use Rattle.topology.proofs.twins.least_at_address.Given as goal

abbrev pub invariant-loop-at : goal.invariant-loop-at
invariant-loop-at l = least_pair repeats share_one 0 l.all ≡ least_pair repeats share_one l.at (drop l.at l.all)
