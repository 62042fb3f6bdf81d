use Rattle.std.proofs.Common.{◌≡◌, map, take}
use Rattle.topology.specs.Resolving.{net_community_entry}
use Rattle.topology.proofs.resolving.net_community_list.Given as goal

abbrev pub invariant-loop-entry : goal.invariant-loop-entry
invariant-loop-entry l = l.entries.items ≡ map (λ entry. net_community_entry l.communities entry) (take l.entry-index l.entry-items)
