use Rattle.std.proofs.Common.{◌≡◌, drop}
use Rattle.net_types.specs.Owners.{stub_of}
use Rattle.ospf_paths.proofs.least_sums.stub_of.Given as goal

abbrev pub invariant-loop-entry : goal.invariant-loop-entry
invariant-loop-entry l = stub_of l.prefix (drop l.entry-index l.owned) ≡ stub_of l.prefix l.owned
