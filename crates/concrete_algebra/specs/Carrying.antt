-- What an arc of a session carries: the sender's export, then the receiver's import, after RFC 4271, sections
-- 5.1 and 9.1.2, and RFC 1997. Weight, and the routers in place of AS numbers on a path, are this project's own.
use Rattle.std.specs.Prelude.{ℕ, ◌||◌, Bool, false, ◌∷◌, Option, None, option_map, option_and_then, if◌then◌else◌}
use Rattle.std.specs.Option.{option_map_or}
use Rattle.net_types.specs.declared.arcs.Arc.{Arc}
use Rattle.net_types.specs.declared.network.Link.{Link}
use Rattle.net_types.specs.declared.routes.Route.{Route}
use Rattle.net_types.specs.declared.routes.Source.TheVariants.{Learned}
use Rattle.net_types.specs.Arcs.{from_end, link_of, to_end}
use Rattle.net_types.specs.NetFacts.{no_export, no_advertise}
use Rattle.net_types.specs.NetValue.{NetValue}
use Rattle.net_types.specs.Numbering.{community_number}
use Rattle.net_types.specs.PrefixValue.{PrefixValue}
use Rattle.net_types.specs.Routes.{is_on, sent_med}
use Rattle.net_types.specs.Sets.{has}
use Rattle.concrete_algebra.specs.Maps.{map_gives}

-- the community of this value is among those held
abbrev pub holds_value : NetValue → ℕ → ℕ → Bool
holds_value net value held = option_map_or (λ number. has held number) (community_number net value) false

-- a route with these communities is sent to no neighbor: it holds NO_EXPORT or NO_ADVERTISE
abbrev pub is_kept_home : NetValue → ℕ → Bool
is_kept_home net held = holds_value net no_export held || holds_value net no_advertise held

-- the route with the router in front of its path once more
abbrev pub sent_by : ℕ → Route → Route
sent_by sender route = record route { path = sender ∷ route.path }

-- what the beginning of a link's direction sends: nothing of a route that is kept home; else, with the MED that
-- is sent, what the export side gives, with the sender in front of the path
abbrev pub end_sends : NetValue → PrefixValue → Bool → Link → Route → Option Route
end_sends net prefix down link route =
    if is_kept_home net route.communities then None
    else option_map (sent_by (from_end down link).router)
    (map_gives net (from_end down link).router (from_end down link).export prefix (record route { med = sent_med route.source route.med }))

-- export over an arc
unfoldable pub export_gives : NetValue → PrefixValue → Arc → Route → Option Route
export_gives net prefix arc route = option_and_then (λ link. end_sends net prefix arc.down link route) (link_of net arc)

-- the route as the receiver begins with it
abbrev pub as_received : Route → Route
as_received route = record route { weight = 0; preference = 100 }

-- the route with the arc as its source
abbrev pub learned_over : Arc → Route → Route
learned_over arc route = record route { source = Learned arc }

-- what the end of a link's direction takes in: nothing where the receiver is on the path, as that is a loop; else,
-- with weight 0 and preference 100, what the import side gives, with the arc as its source
abbrev pub end_takes : NetValue → PrefixValue → Arc → Link → Route → Option Route
end_takes net prefix arc link route =
    if is_on (to_end arc.down link).router route.path then None
    else option_map (learned_over arc)
    (map_gives net (to_end arc.down link).router (to_end arc.down link).import prefix (as_received route))

-- import over an arc
unfoldable pub import_gives : NetValue → PrefixValue → Arc → Route → Option Route
import_gives net prefix arc route = option_and_then (λ link. end_takes net prefix arc link route) (link_of net arc)

-- what an arc carries of a route: the import of its export
abbrev pub carry_gives : NetValue → PrefixValue → Arc → Route → Option Route
carry_gives net prefix arc route = option_and_then (λ sent. import_gives net prefix arc sent) (export_gives net prefix arc route)
