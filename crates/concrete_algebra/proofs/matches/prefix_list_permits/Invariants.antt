use Rattle.std.proofs.Common.{◌≡◌, drop}
use Rattle.concrete_algebra.specs.Maps.{prefix_list_permits}
use Rattle.concrete_algebra.proofs.matches.prefix_list_permits.Given as goal

abbrev pub invariant-loop-entry : goal.invariant-loop-entry
invariant-loop-entry l = prefix_list_permits l.prefix (drop l.entry-index l.entries) ≡ prefix_list_permits l.prefix l.entries
