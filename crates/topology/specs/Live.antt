-- The live interfaces of a bundle.
use Rattle.std.specs.Prelude.{ℕ, ◌+◌, ◌==◌, ◌&&◌, ◌||◌, ◌++◌, nat_le, not, codes, unwrap_or, Bool, false, List, [], ◌∷◌, Option, Some, None, option_and_then, option_map, if◌then◌else◌}
use Rattle.std.specs.List.{list_any, filter_map}
use Rattle.std.specs.Option.{option_map_or}
use Rattle.net_types.specs.declared.config.RouterConfig.{RouterConfig}
use Rattle.net_types.specs.declared.config.Interface.{Interface}
use Rattle.net_types.specs.declared.config.BgpConfig.{BgpConfig}
use Rattle.net_types.specs.Order.{same_text, text_before}
use Rattle.net_types.specs.PrefixValue.{PrefixValue}
use Rattle.net_types.specs.Prefixes.{covers}
use Rattle.topology.specs.declared.interfaces.Port.{Port}
use Rattle.topology.specs.Ascending.{ascending}
use Rattle.topology.specs.Pairs.{any_pair}

abbrev pub host_before : RouterConfig → RouterConfig → Bool
host_before a b = text_before a.host b.host

abbrev pub same_host : RouterConfig → RouterConfig → Bool
same_host a b = same_text a.host b.host

-- the configurations in byte order of their hosts: router k is of the one at k
abbrev pub in_order : List RouterConfig → List RouterConfig
in_order configs = ascending same_host host_before configs

-- an interface's address and subnet where it is live: where it has an address and is not shut down
abbrev pub live : Interface → Option (ℕ × PrefixValue)
live interface = if interface.shutdown then None else interface.address

abbrev pub is_loopback : Interface → Bool
is_loopback interface = same_text interface.name (codes "lo")

-- an interface runs OSPF where the file has `router ospf`, and the interface has `ip ospf area 0` or its
-- subnet lies in a prefix of a `network` line of OSPF
abbrev pub runs_ospf : RouterConfig → Interface → PrefixValue → Bool
runs_ospf config interface subnet =
    option_map_or (λ prefixes. interface.ospf || list_any (λ p. covers p subnet) prefixes) config.ospf false

-- a live interface of a router; a cost that is not written is 10
abbrev pub port_of : ℕ → RouterConfig → Interface → Option Port
port_of router config interface =
    option_map (λ a. record {
      router = router;
      address = a.0;
      subnet = a.1;
      loopback = is_loopback interface;
      ospf = runs_ospf config interface a.1;
      cost = unwrap_or interface.cost 10;
    }) (live interface)

abbrev pub ports_of : ℕ → RouterConfig → List Port
ports_of router config = filter_map (λ interface. port_of router config interface) config.interfaces

-- the live interfaces of configurations whose routers are numbered from this number on
abbrev pub ports_from : ℕ → List RouterConfig → List Port
ports_from router [] = []
ports_from router (config ∷ configs) = ports_of router config ++ ports_from (router + 1) configs

-- the live interfaces of all routers
abbrev pub ports : List RouterConfig → List Port
ports configs = ports_from 0 (in_order configs)

-- what can be an end of a link: neither named `lo` nor of length 32
abbrev pub can_link : Bool → PrefixValue → Bool
can_link loopback subnet = not loopback && nat_le subnet.len 31

-- the address of a live interface that can be an end of a link
abbrev pub link_address : Interface → Option ℕ
link_address interface = option_and_then (λ a. if can_link (is_loopback interface) a.1 then Some a.0 else None) (live interface)

abbrev pub same_number : Option ℕ → Option ℕ → Bool
same_number (Some x) (Some y) = x == y
same_number _ _ = false

-- two live interfaces that can be ends of links have one address
abbrev pub share_address : Interface → Interface → Bool
share_address a b = same_number (link_address a) (link_address b)

-- one configuration has an address twice
abbrev pub has_address_twice : RouterConfig → Bool
has_address_twice config = any_pair share_address config.interfaces

-- two configurations have an address in common
abbrev pub meet_at_address : RouterConfig → RouterConfig → Bool
meet_at_address a b = list_any (λ x. list_any (λ y. share_address x y) b.interfaces) a.interfaces

-- the AS number of a configuration, where it has `router bgp`
abbrev pub asn_of : RouterConfig → Option ℕ
asn_of config = option_map (λ (bgp : BgpConfig). bgp.asn) config.bgp

-- two configurations have one AS number
abbrev pub same_asn : RouterConfig → RouterConfig → Bool
same_asn a b = same_number (asn_of a) (asn_of b)
