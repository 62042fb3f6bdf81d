use Rattle.std.proofs.Common.{◌≡◌, map, take}
use Rattle.topology.specs.Resolving.{net_community_list}
use Rattle.topology.proofs.resolving.net_community_lists.Given as goal

abbrev pub invariant-loop-list : goal.invariant-loop-list
invariant-loop-list l = l.all.items ≡ map (λ list. net_community_list l.communities list) (take l.list-index l.lists)
