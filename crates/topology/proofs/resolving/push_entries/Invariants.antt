use Rattle.std.proofs.Common.{◌≡◌, ◌++◌, drop}
use Rattle.topology.specs.Resolving.{net_map_entries}
use Rattle.topology.proofs.resolving.push_entries.Given as goal

abbrev pub invariant-loop-entry : goal.invariant-loop-entry
invariant-loop-entry l = l.all.items ++ net_map_entries l.communities l.config (drop l.entry-index l.entries) ≡ l.fn.all.items ++ net_map_entries l.communities l.config l.entries
