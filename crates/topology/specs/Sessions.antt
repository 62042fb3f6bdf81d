-- Sessions of BGP: the neighbor lines of two routers for one another, and the policies of each side.
use Rattle.std.specs.Prelude.{ℕ, ◌==◌, ◌&&◌, Bool, List, Option, Some, None, option_and_then, option_map, find, slice_get, if◌then◌else◌}
use Rattle.net_types.specs.declared.config.RouterConfig.{RouterConfig}
use Rattle.net_types.specs.declared.config.BgpConfig.{BgpConfig}
use Rattle.net_types.specs.declared.config.Neighbor.{Neighbor}
use Rattle.net_types.specs.declared.config.RouteMap.{RouteMap}
use Rattle.net_types.specs.declared.config.Redistribute.{Redistribute}
use Rattle.net_types.specs.declared.config.Redistribute.TheVariants.{No, Plain, By}
use Rattle.net_types.specs.declared.network.Policy.{Policy}
use Rattle.net_types.specs.declared.network.Policy.TheVariants.{Closed, Open, Map}
use Rattle.topology.specs.declared.interfaces.Port.{Port}
use Rattle.topology.specs.declared.sessions.Side.{Side}
use Rattle.topology.specs.Live.{asn_of}
use Rattle.topology.specs.Resolving.{map_place}

-- the neighbor line is for a router of this AS number at this address
abbrev pub is_for : ℕ → ℕ → Neighbor → Bool
is_for address asn neighbor = (neighbor.address == address) && (neighbor.asn == asn)

-- a direction without a map is open where the router needs no policy, else closed (RFC 8212)
abbrev pub without_map : Bool → Policy
without_map needs = if needs then Closed else Open

-- the policy of one direction: the map of this name, or that without a map
abbrev pub policy_of : List RouteMap → Bool → Option (List ℕ) → Policy
policy_of maps needs None = without_map needs
policy_of maps needs (Some name) = Map (map_place maps name)

-- the side of a session that a neighbor line makes
abbrev pub side_by : List RouteMap → Bool → Neighbor → Side
side_by maps needs neighbor = record { «import» = policy_of maps needs neighbor.import; «export» = policy_of maps needs neighbor.export }

-- the side that a configuration has of a session with a router of this AS number at this address, where it
-- has a neighbor line for it
abbrev pub side_for : RouterConfig → ℕ → ℕ → Option Side
side_for config address asn =
    option_and_then
    (λ (bgp : BgpConfig). option_map (side_by config.maps bgp.needs_policy) (find (is_for address asn) bgp.neighbors))
    config.bgp

-- the AS number of the router of this number; the configurations are in order
abbrev pub asn_at : List RouterConfig → ℕ → Option ℕ
asn_at configs router = option_and_then (λ config. asn_of config) (slice_get configs router)

-- the side that the router at the one interface has of a session with the router at the other
abbrev pub side_at : List RouterConfig → Port → Port → Option Side
side_at configs here there =
    option_and_then
    (λ asn. option_and_then (λ config. side_for config there.address asn) (slice_get configs here.router))
    (asn_at configs there.router)

-- the side of an end of a link that is no session: nothing comes in or goes out
abbrev pub no_side : Side
no_side = record { «import» = Closed; «export» = Closed }

-- what is done with routes of another source
abbrev pub redistribution : List RouteMap → Redistribute → Policy
redistribution maps No = Closed
redistribution maps Plain = Open
redistribution maps (By name) = Map (map_place maps name)

-- what a configuration does in BGP with connected prefixes, and with OSPF's routes
abbrev pub connected_of : RouterConfig → Option BgpConfig → Policy
connected_of config None = Closed
connected_of config (Some bgp) = redistribution config.maps bgp.connected

abbrev pub ospf_of : RouterConfig → Option BgpConfig → Policy
ospf_of config None = Closed
ospf_of config (Some bgp) = redistribution config.maps bgp.ospf
