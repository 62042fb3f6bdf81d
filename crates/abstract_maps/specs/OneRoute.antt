-- What is true of the row of one route: nothing of it is left open, so that the answers on it are those of
-- `concrete_algebra` on the route. And of a row with no open community: where a route of it may come over an arc, each
-- does.
use Rattle.std.specs.Prelude.{ℕ, ◌≡◌, ◌<◌, ◌≤◌, ◌*◌, ◌^◌, true, false, length, IfSome}
use Rattle.std.specs.Int.{bit_not, w64}
use Rattle.std.specs.Option.{is_some}
use Rattle.net_types.specs.Routes.{is_on, sent_med}
use Rattle.net_types.specs.declared.arcs.Arc.{Arc}
use Rattle.net_types.specs.declared.network.Policy.{Policy}
use Rattle.net_types.specs.declared.routes.Route.{Route}
use Rattle.net_types.specs.Arcs.{is_session, receiver_of}
use Rattle.net_types.specs.NetFacts.{IsNet}
use Rattle.net_types.specs.NetValue.{NetValue}
use Rattle.net_types.specs.PrefixValue.{PrefixValue}
use Rattle.abstract_route.specs.declared.rows.Row.{Row}
use Rattle.abstract_route.specs.Fits.{exact_row}
use Rattle.abstract_route.specs.Rows.{IsInhabited, IsRow}
use Rattle.concrete_algebra.specs.Carrying.{carry_gives}
use Rattle.concrete_algebra.specs.Maps.{map_gives}
use Rattle.abstract_maps.specs.AbstractMap.{abstract_map, sure}
use Rattle.abstract_maps.specs.LocalRow.{exact_or_bottom}
use Rattle.abstract_maps.specs.Transfer.{opens, passes, transfer}

-- of the row of one route a policy makes the row of what it gives of the route
abbrev pub MapIsExact : Type 0
MapIsExact =
    (net : NetValue) (u : ℕ) (policy : Policy) (prefix : PrefixValue) (route : Route) → IsNet net → u < length net.routers →
    route.communities < 2 ^ 64 → abstract_map net u policy prefix (exact_row route) ≡ exact_or_bottom (map_gives net u policy prefix route)

-- and it is sure of that row exactly where it gives something
abbrev pub SureIsExact : Type 0
SureIsExact =
    (net : NetValue) (u : ℕ) (policy : Policy) (prefix : PrefixValue) (route : Route) → IsNet net → u < length net.routers →
    route.communities < 2 ^ 64 → sure net u policy prefix (exact_row route) ≡ is_some (map_gives net u policy prefix route)

-- the least row that the route is in
abbrev pub least_row : Route → Row
least_row route = exact_row (record route { med = sent_med route.source route.med })

-- of the row of one route an arc makes the row of what it carries of the route, if its path has at most 21 entries for
-- each router
abbrev pub TransferIsExact : Type 0
TransferIsExact =
    (net : NetValue) (prefix : PrefixValue) (arc : Arc) (route : Route) → IsNet net → IsRow (least_row route) → is_session net arc ≡ true →
    IfSome (carry_gives net prefix arc route) (λ carried. length carried.path ≤ 21 * length net.routers) →
    transfer net prefix arc (least_row route) ≡ exact_or_bottom (carry_gives net prefix arc route)

-- the router that the arc goes to is not on the route's path
abbrev pub Misses : NetValue → Arc → Route → Type 0
Misses net arc route = IfSome (receiver_of net arc) (λ u. is_on u route.path ≡ false)

-- an arc passes the row of one route exactly where it carries the route, if the receiver is not on its path
abbrev pub PassesIsExact : Type 0
PassesIsExact =
    (net : NetValue) (prefix : PrefixValue) (arc : Arc) (route : Route) → IsNet net → IsRow (least_row route) → is_session net arc ≡ true →
    Misses net arc route → passes net prefix arc (least_row route) ≡ is_some (carry_gives net prefix arc route)

-- and it is open for it exactly there
abbrev pub OpenIsExact : Type 0
OpenIsExact =
    (net : NetValue) (prefix : PrefixValue) (arc : Arc) (route : Route) → IsNet net → IsRow (least_row route) → is_session net arc ≡ true →
    Misses net arc route → opens net prefix arc (least_row route) ≡ is_some (carry_gives net prefix arc route)

-- no community of the row is open: what may be lacked is all that may not be held
abbrev pub IsKnown : Row → Type 0
IsKnown row = (row.has < 2 ^ 64) × (row.lacks ≡ bit_not w64 row.has)

-- an arc passes such a row exactly where it is open for it, whoever is on its paths
abbrev pub OpenIsPasses : Type 0
OpenIsPasses =
    (net : NetValue) (prefix : PrefixValue) (arc : Arc) (row : Row) → IsNet net → IsInhabited row → IsKnown row →
    opens net prefix arc row ≡ passes net prefix arc row
