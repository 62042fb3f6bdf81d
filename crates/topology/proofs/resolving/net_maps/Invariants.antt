use Rattle.std.proofs.Common.{◌≡◌, map, take}
use Rattle.topology.specs.Resolving.{net_map}
use Rattle.topology.proofs.resolving.net_maps.Given as goal

abbrev pub invariant-loop-routes : goal.invariant-loop-routes
invariant-loop-routes l = l.all.items ≡ map (λ routes. net_map l.communities l.config routes) (take l.routes-index l.routes-items)
