use Rattle.std.proofs.Common.{◌≡◌, ◌++◌, drop}
use Rattle.std.specs.List.{flat_map}
use Rattle.topology.specs.Communities.{map_values}
use Rattle.topology.proofs.communities.push_maps.Given as goal

abbrev pub invariant-loop-routes : goal.invariant-loop-routes
invariant-loop-routes l = l.all.items ++ flat_map (λ m. map_values m) (drop l.routes-index l.maps) ≡ l.fn.all.items ++ flat_map (λ m. map_values m) l.maps
