use Rattle.std.proofs.Common.{◌≡◌, ◌++◌, drop}
use Rattle.std.specs.List.{flat_map}
use Rattle.topology.specs.Communities.{list_values}
use Rattle.topology.proofs.communities.push_lists.Given as goal

abbrev pub invariant-loop-list : goal.invariant-loop-list
invariant-loop-list l = l.all.items ++ flat_map (λ l. list_values l) (drop l.list-index l.lists) ≡ l.fn.all.items ++ flat_map (λ l. list_values l) l.lists
