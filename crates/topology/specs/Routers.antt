-- The routers of a network.
use Rattle.std.specs.Prelude.{ℕ, ◌+◌, List, [], ◌∷◌, map}
use Rattle.net_types.specs.declared.config.RouterConfig.{RouterConfig}
use Rattle.net_types.specs.declared.network.Router.{Router}
use Rattle.topology.specs.declared.interfaces.Port.{Port}
use Rattle.topology.specs.Live.{asn_of}
use Rattle.topology.specs.Owning.{stubs, owned_by, networks_of}
use Rattle.topology.specs.Resolving.{net_community_list, net_map}
use Rattle.topology.specs.Sessions.{connected_of, ospf_of}

-- the router of a number and configuration, among these live interfaces and communities
abbrev pub router_of : List Port → List ℕ → ℕ → RouterConfig → Router
router_of ports communities router config = record {
  host = config.host;
  asn = asn_of config;
  owned = owned_by (stubs ports router) (networks_of config);
  connected = connected_of config config.bgp;
  ospf = ospf_of config config.bgp;
  prefix_lists = config.prefix_lists;
  community_lists = map (λ l. net_community_list communities l) config.community_lists;
  maps = map (λ routes. net_map communities config routes) config.maps;
}

-- the routers of configurations that are numbered from this number on
abbrev pub routers_from : List Port → List ℕ → ℕ → List RouterConfig → List Router
routers_from ports communities router [] = []
routers_from ports communities router (config ∷ configs) = router_of ports communities router config ∷
    routers_from ports communities (router + 1) configs
