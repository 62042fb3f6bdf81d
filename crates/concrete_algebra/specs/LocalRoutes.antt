-- The routes that routers originate: what a `network` line names, and what is redistributed into BGP. This
-- project's own, after the configuration language of FRR.
use Rattle.std.specs.Prelude.{ℕ, [], Option, Some, None, slice_get, option_and_then, if◌then◌else◌}
use Rattle.net_types.specs.declared.config.Origin.{Origin}
use Rattle.net_types.specs.declared.config.Origin.TheVariants.{Igp, Incomplete}
use Rattle.net_types.specs.declared.network.Owned.{Owned}
use Rattle.net_types.specs.declared.network.Router.{Router}
use Rattle.net_types.specs.declared.routes.Route.{Route}
use Rattle.net_types.specs.declared.routes.Source.TheVariants.{Local}
use Rattle.net_types.specs.NetValue.{NetValue}
use Rattle.net_types.specs.Owners.{entry_of}
use Rattle.net_types.specs.PrefixValue.{PrefixValue}
use Rattle.concrete_algebra.specs.Maps.{map_gives}

-- a local route as it begins, with this origin and MED
abbrev pub originated : Origin → ℕ → Route
originated origin med = record { weight = 32768; preference = 100; path = []; origin = origin; med = med; communities = 0; source = Local }

-- of an owner: what a `network` line names, as it is; else the prefix of a stub, if connected prefixes are
-- redistributed, through their policy
abbrev pub owner_route : NetValue → PrefixValue → ℕ → Router → Owned → Option Route
owner_route net prefix u router entry =
    if entry.network then Some (originated Igp 0)
    else (if entry.stub then map_gives net u router.connected prefix (originated Incomplete 0) else None)

-- of another router: OSPF's route, if there is one and OSPF's routes are redistributed, through their policy; its
-- MED is the distance
abbrev pub ospf_route : NetValue → PrefixValue → ℕ → Router → Option ℕ → Option Route
ospf_route net prefix u router None = None
ospf_route net prefix u router (Some distance) = map_gives net u router.ospf prefix (originated Incomplete distance)

abbrev pub route_by_entry : NetValue → PrefixValue → ℕ → Router → Option ℕ → Option Owned → Option Route
route_by_entry net prefix u router distance (Some entry) = owner_route net prefix u router entry
route_by_entry net prefix u router distance None = ospf_route net prefix u router distance

-- the local route of router u, which has this OSPF distance or none
unfoldable pub local_of : NetValue → PrefixValue → ℕ → Option ℕ → Option Route
local_of net prefix u distance =
    option_and_then (λ router. route_by_entry net prefix u router distance (entry_of prefix router.owned)) (slice_get net.routers u)
