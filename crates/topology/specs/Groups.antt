-- Groups of interfaces in one subnet, and the pairs of them that are links.
use Rattle.std.specs.Prelude.{◌<◌, ◌&&◌, nat_lt, Bool, true, false, List, [], ◌∷◌, Option, Some, None, filter, find, map, if◌then◌else◌}
use Rattle.std.specs.List.{filter_map}
use Rattle.net_types.specs.PrefixValue.{PrefixValue}
use Rattle.net_types.specs.Prefixes.{same_prefix}
use Rattle.topology.specs.declared.interfaces.Port.{Port}
use Rattle.topology.specs.declared.groups.Group.{Group}
use Rattle.topology.specs.declared.groups.Group.TheVariants.{Alone, Joined, Shared}
use Rattle.topology.specs.declared.groups.Wire.{Wire}
use Rattle.topology.specs.Ascending.{ascending_prefixes}
use Rattle.topology.specs.Live.{can_link}

-- the interface can be an end of a link in this subnet
abbrev pub is_in : PrefixValue → Port → Bool
is_in subnet port = can_link port.loopback port.subnet && same_prefix port.subnet subnet

-- the group of a subnet: the interfaces that can be ends of a link in it
abbrev pub group : List Port → PrefixValue → List Port
group ports subnet = filter (λ port. is_in subnet port) ports

-- two interfaces make a link where they are of two routers; the lower is at the router of the lower number
abbrev pub joined : Port → Port → Group
joined a b = if nat_lt a.router b.router then Joined a b else (if nat_lt b.router a.router then Joined b a else Shared)

-- a group of one is a stub, of two on two routers a link, any other is refused
abbrev pub kind_of : List Port → Group
kind_of (a ∷ []) = Alone
kind_of (a ∷ b ∷ []) = joined a b
kind_of _ = Shared

abbrev pub kind_at : List Port → PrefixValue → Group
kind_at ports subnet = kind_of (group ports subnet)

-- the subnets of the interfaces that can be ends of links, ascending
abbrev pub subnets_of : List Port → List PrefixValue
subnets_of ports = ascending_prefixes (map (λ port. port.subnet) (filter (λ port. can_link port.loopback port.subnet) ports))

abbrev pub is_shared : Group → Bool
is_shared Shared = true
is_shared _ = false

-- the least subnet whose group is refused
abbrev pub shared_subnet : List Port → Option PrefixValue
shared_subnet ports = find (λ subnet. is_shared (kind_at ports subnet)) (subnets_of ports)

abbrev pub wire_of : PrefixValue → Group → Option Wire
wire_of subnet (Joined low high) = Some (record { subnet = subnet; low = low; high = high })
wire_of subnet _ = None

-- the pairs of interfaces that are links, in the order of their subnets
abbrev pub wires : List Port → List Wire
wires ports = filter_map (λ subnet. wire_of subnet (kind_at ports subnet)) (subnets_of ports)

-- the routers of both ends have numbers below 64
pub record IsNumbered (wire : Wire) : Type 0 where
  pub low : wire.low.router < 64
  pub high : wire.high.router < 64
