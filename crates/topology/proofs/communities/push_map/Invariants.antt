use Rattle.std.proofs.Common.{◌≡◌, ◌++◌, drop}
use Rattle.std.specs.List.{flat_map}
use Rattle.topology.specs.Communities.{set_values, map_values}
use Rattle.topology.proofs.communities.push_map.Given as goal

abbrev pub invariant-loop-entry : goal.invariant-loop-entry
invariant-loop-entry l = l.all.items ++ flat_map (λ entry. set_values entry.sets.community) (drop l.entry-index l.entry-items) ≡ l.fn.all.items ++ map_values l.routes
