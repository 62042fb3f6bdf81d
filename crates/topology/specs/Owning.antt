-- The stubs of a router, and the prefixes that it owns.
use Rattle.std.specs.Prelude.{ℕ, ◌==◌, ◌&&◌, ◌||◌, ◌++◌, not, min, Bool, true, false, List, [], Option, Some, None, filter, fold, map, if◌then◌else◌}
use Rattle.std.specs.List.{list_any}
use Rattle.std.specs.Option.{option_map_or}
use Rattle.net_types.specs.declared.config.RouterConfig.{RouterConfig}
use Rattle.net_types.specs.declared.config.BgpConfig.{BgpConfig}
use Rattle.net_types.specs.declared.network.Owned.{Owned}
use Rattle.net_types.specs.PrefixValue.{PrefixValue}
use Rattle.net_types.specs.Prefixes.{same_prefix}
use Rattle.topology.specs.declared.interfaces.Port.{Port}
use Rattle.topology.specs.declared.groups.Group.{Group}
use Rattle.topology.specs.declared.groups.Group.TheVariants.{Alone}
use Rattle.topology.specs.Ascending.{ascending_prefixes}
use Rattle.topology.specs.Live.{can_link}
use Rattle.topology.specs.Groups.{kind_at}

abbrev pub is_alone : Group → Bool
is_alone Alone = true
is_alone _ = false

-- a stub: an interface that can be no end of a link, or one that is alone in its subnet
abbrev pub is_stub : List Port → Port → Bool
is_stub ports port = not (can_link port.loopback port.subnet) || is_alone (kind_at ports port.subnet)

-- the stubs of a router
abbrev pub stubs : List Port → ℕ → List Port
stubs ports router = filter (λ port. (port.router == router) && is_stub ports port) ports

-- the cost of a stub: 0 on `lo`, else its interface's
abbrev pub stub_cost : Port → ℕ
stub_cost port = if port.loopback then 0 else port.cost

abbrev pub lesser : Option ℕ → ℕ → Option ℕ
lesser None n = Some n
lesser (Some m) n = Some (min m n)

-- the least of numbers, where there is one
abbrev pub least : List ℕ → Option ℕ
least numbers = fold (λ least n. lesser least n) None numbers

-- the least cost of the stubs of the prefix that run OSPF, where there is one
abbrev pub least_cost : List Port → PrefixValue → Option ℕ
least_cost stubs prefix = least (map (λ port. stub_cost port) (filter (λ port. port.ospf && same_prefix port.subnet prefix) stubs))

-- the prefix is that of one of the stubs
abbrev pub has_stub : List Port → PrefixValue → Bool
has_stub stubs prefix = list_any (λ port. same_prefix port.subnet prefix) stubs

-- the prefix stands in one of the `network` lines
abbrev pub has_network : List PrefixValue → PrefixValue → Bool
has_network networks prefix = list_any (λ q. same_prefix q prefix) networks

abbrev pub owned_of : List Port → List PrefixValue → PrefixValue → Owned
owned_of stubs networks prefix = record {
  prefix = prefix;
  network = has_network networks prefix;
  stub = has_stub stubs prefix;
  ospf_cost = least_cost stubs prefix;
}

-- the prefixes of the stubs and of the `network` lines, ascending, each once
abbrev pub prefixes_of : List Port → List PrefixValue → List PrefixValue
prefixes_of stubs networks = ascending_prefixes (map (λ port. port.subnet) stubs ++ networks)

-- what a router with these stubs and `network` lines owns
abbrev pub owned_by : List Port → List PrefixValue → List Owned
owned_by stubs networks = map (λ prefix. owned_of stubs networks prefix) (prefixes_of stubs networks)

-- the prefixes of the `network` lines of a configuration's BGP
abbrev pub networks_of : RouterConfig → List PrefixValue
networks_of config = option_map_or (λ (bgp : BgpConfig). bgp.networks) config.bgp []
