-- Notices: the neighbor lines that make no session.
use Rattle.std.specs.Prelude.{ℕ, ◌+◌, ◌==◌, ◌&&◌, ◌||◌, ◌++◌, not, Bool, List, [], ◌∷◌, map, filter}
use Rattle.std.specs.List.{list_any}
use Rattle.std.specs.Option.{option_map_or}
use Rattle.net_types.specs.declared.config.RouterConfig.{RouterConfig}
use Rattle.net_types.specs.declared.config.BgpConfig.{BgpConfig}
use Rattle.net_types.specs.declared.config.Neighbor.{Neighbor}
use Rattle.net_types.specs.declared.network.Link.{Link}
use Rattle.net_types.specs.declared.network.Notice.{Notice}
use Rattle.net_types.specs.NetFacts.{notice_before}
use Rattle.topology.specs.Ascending.{ascending}

-- the neighbor lines of a configuration's BGP
abbrev pub neighbors_of : RouterConfig → List Neighbor
neighbors_of config = option_map_or (λ (bgp : BgpConfig). bgp.neighbors) config.bgp []

-- the link is a session of this router with the address at its other end
abbrev pub is_session_with : ℕ → ℕ → Link → Bool
is_session_with router address link =
    link.session &&
    (((link.low.router == router) && (link.high.address == address)) || ((link.high.router == router) && (link.low.address == address)))

-- a neighbor line with this address makes a session of the router
abbrev pub makes_session : List Link → ℕ → ℕ → Bool
makes_session links router address = list_any (λ link. is_session_with router address link) links

-- a router's neighbor lines that make no session
abbrev pub idle_neighbors : List Link → ℕ → RouterConfig → List Neighbor
idle_neighbors links router config = filter (λ (n : Neighbor). not (makes_session links router n.address)) (neighbors_of config)

abbrev pub notices_of : List Link → ℕ → RouterConfig → List Notice
notices_of links router config =
    map (λ (n : Neighbor). record { router = router; address = n.address }) (idle_neighbors links router config)

-- the notices of configurations whose routers are numbered from this number on, as the lines stand
abbrev pub notices_from : List Link → ℕ → List RouterConfig → List Notice
notices_from links router [] = []
notices_from links router (config ∷ configs) = notices_of links router config ++ notices_from links (router + 1) configs

abbrev pub same_notice : Notice → Notice → Bool
same_notice a b = (a.router == b.router) && (a.address == b.address)

-- the notices, by router and then by address
abbrev pub notices : List Link → List RouterConfig → List Notice
notices links configs = ascending same_notice notice_before (notices_from links 0 configs)
