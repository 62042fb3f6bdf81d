-- What is true of each link: its ends, and that links ascend by subnet.
use Rattle.std.proofs.Common.{ℕ, ◌≡◌, ◌≤◌, ◌<◌, Bool, true, false, cond, ltb, List, [], ◌∷◌, length, map, refl, arith, All, AllPairs}
use Rattle.std.specs.List.{AllByRecursion, filter}
use Rattle.std.specs.Option.{IfSome}
use Rattle.std.specs.Prelude.{Option, Some, None}
use Rattle.std.proofs.lemmas.Bool.Decides.{nat_tests}
use Rattle.std.proofs.lemmas.List.Elements.{All-from_recursion}
use Rattle.net_types.specs.PrefixValue.{PrefixValue, IsPrefix}
use Rattle.net_types.specs.Prefixes.{same_prefix, prefix_before}
use Rattle.net_types.specs.NetFacts.{IsLink, IsEnd, map_count}
use Rattle.net_types.specs.ConfigFacts.{IsConfig}
use Rattle.net_types.specs.declared.config.RouterConfig.{RouterConfig}
use Rattle.net_types.specs.declared.network.Link.{Link}
use Rattle.net_types.specs.declared.network.Router.{Router}
use Rattle.topology.specs.declared.interfaces.Port.{Port}
use Rattle.topology.specs.declared.groups.Group.{Group}
use Rattle.topology.specs.declared.groups.Group.TheVariants.{Alone, Joined, Shared}
use Rattle.topology.specs.declared.groups.Wire.{Wire}
use Rattle.topology.specs.Live.{can_link}
use Rattle.topology.specs.Groups.{group, is_in, joined, kind_of, kind_at, subnets_of, wire_of, wires, IsNumbered}
use Rattle.topology.specs.declared.sessions.Side.{Side}
use Rattle.topology.specs.Sessions.{side_at, no_side}
use Rattle.topology.specs.Links.{end_of, joined_by, link_of, links_of}
use Rattle.topology.proofs.SideLemmas.{IsSide, IsSide-side_at, maps_at}
use Rattle.topology.proofs.RisingLemmas.{Rises, AllByRecursion-weaker, All-filter, All-map, All-filter_map, All-ascending, Rises-ascending, Rises-filter_map, Rises-map, AllPairs-from_rises}
use Rattle.topology.proofs.OrderLaws.{prefix_order}
use Rattle.topology.proofs.PortLemmas.{IsPort}

-- a pair of interfaces, the one at the lower router first
record IsJoined (count : ℕ) (low high : Port) : Type 0 where
  lower : IsPort count low
  higher : IsPort count high
  order : low.router < high.router

abbrev IsGroup : ℕ → Group → Type 0
IsGroup count Alone = Unit {0}
IsGroup count (Joined low high) = IsJoined count low high
IsGroup count Shared = Unit {0}

-- the two interfaces of a link
record IsWire (count : ℕ) (wire : Wire) : Type 0 where
  subnet : IsPrefix wire.subnet
  ends : IsJoined count wire.low wire.high

IsGroup-joined : (count : ℕ) (a b : Port) → IsPort count a → IsPort count b → IsGroup count (joined a b)
IsGroup-joined count a b p q = go (ltb a.router b.router) refl (ltb b.router a.router) refl where
  go : (s : Bool) → ltb a.router b.router ≡ s → (t : Bool) → ltb b.router a.router ≡ t → IsGroup count (cond s (Joined a b) (cond t (Joined b a) Shared))
  go true e t f = record { lower = p; higher = q; order = grind (arith, nat_tests) }
  go false e true f = record { lower = q; higher = p; order = grind (arith, nat_tests) }
  go false e false f = tt

IsGroup-kind_of : (count : ℕ) (ports : List Port) → AllByRecursion (IsPort count) ports → IsGroup count (kind_of ports)
IsGroup-kind_of count [] a = tt
IsGroup-kind_of count (p ∷ []) a = tt
IsGroup-kind_of count (p ∷ q ∷ []) a = IsGroup-joined count p q a.0 a.1.0
IsGroup-kind_of count (p ∷ q ∷ r ∷ ports) a = tt

IsWire-wire_of : (count : ℕ) (subnet : PrefixValue) (kind : Group) → IsPrefix subnet → IsGroup count kind → IfSome (wire_of subnet kind) (IsWire count)
IsWire-wire_of count subnet Alone p g = tt
IsWire-wire_of count subnet (Joined low high) p g = record { subnet = p; ends = g }
IsWire-wire_of count subnet Shared p g = tt

subnet-wire_of : (subnet : PrefixValue) (kind : Group) → IfSome (wire_of subnet kind) (λ wire. wire.subnet ≡ subnet)
subnet-wire_of subnet Alone = tt
subnet-wire_of subnet (Joined low high) = refl
subnet-wire_of subnet Shared = tt

IsPrefix-subnets_of : (count : ℕ) (ports : List Port) → AllByRecursion (IsPort count) ports → AllByRecursion IsPrefix (subnets_of ports)
IsPrefix-subnets_of count ports a =
    let ends = All-filter (λ port. can_link port.loopback port.subnet) (IsPort count) ports a in
    All-ascending IsPrefix same_prefix prefix_before (map (λ port. port.subnet) (filter (λ port. can_link port.loopback port.subnet) ports))
    (All-map (λ port. port.subnet) IsPrefix (filter (λ port. can_link port.loopback port.subnet) ports)
    (AllByRecursion-weaker (IsPort count) (λ port. IsPrefix port.subnet) (λ port p. p.subnet) (filter (λ port. can_link port.loopback port.subnet) ports) ends))

IsWire-wires : (count : ℕ) (ports : List Port) → AllByRecursion (IsPort count) ports → AllByRecursion (IsWire count) (wires ports)
IsWire-wires count ports a =
    All-filter_map (λ subnet. wire_of subnet (kind_at ports subnet)) IsPrefix (IsWire count)
    (λ subnet p. IsWire-wire_of count subnet (kind_at ports subnet) p (IsGroup-kind_of count (group ports subnet) (All-filter (λ port. is_in subnet port) (IsPort count) ports a)))
    (subnets_of ports) (IsPrefix-subnets_of count ports a)

-- the routers of both ends of each link have numbers below 64, where there are at most 64 routers
pub IsNumbered-wires : (count : ℕ) (ports : List Port) → count ≤ 64 → AllByRecursion (IsPort count) ports → All IsNumbered (wires ports)
IsNumbered-wires count ports few a =
    All-from_recursion IsNumbered (wires ports) (AllByRecursion-weaker (IsWire count) IsNumbered (λ wire w. record { low = omega (arith, w.ends.lower.router); high = omega (arith, w.ends.higher.router) }) (wires ports) (IsWire-wires count ports a))

IsEnd-end_of : (routers : List Router) (count : ℕ) (port : Port) (side : Side) → count ≤ length routers → IsPort count port → IsSide (map_count routers port.router) side → IsEnd routers (end_of port side)
IsEnd-end_of routers count port side l p s = record { router = omega (arith, p.router); address = p.address; least = p.least; most = p.most; «import» = s.import; «export» = s.export }

IsSide-no_side : (count : ℕ) → IsSide count no_side
IsSide-no_side count = record { «import» = tt; «export» = tt }

IsLink-joined_by : (routers : List Router) (count : ℕ) (wire : Wire) (low high : Option Side) → count ≤ length routers → IsWire count wire → IfSome low (IsSide (map_count routers wire.low.router)) → IfSome high (IsSide (map_count routers wire.high.router)) → IsLink routers (joined_by wire low high)
IsLink-joined_by routers count wire None high l w p q = record {
  subnet = w.subnet;
  low = IsEnd-end_of routers count wire.low no_side l w.ends.lower (IsSide-no_side (map_count routers wire.low.router));
  high = IsEnd-end_of routers count wire.high no_side l w.ends.higher (IsSide-no_side (map_count routers wire.high.router));
  order = w.ends.order;
}
IsLink-joined_by routers count wire (Some low) None l w p q = record {
  subnet = w.subnet;
  low = IsEnd-end_of routers count wire.low no_side l w.ends.lower (IsSide-no_side (map_count routers wire.low.router));
  high = IsEnd-end_of routers count wire.high no_side l w.ends.higher (IsSide-no_side (map_count routers wire.high.router));
  order = w.ends.order;
}
IsLink-joined_by routers count wire (Some low) (Some high) l w p q = record {
  subnet = w.subnet;
  low = IsEnd-end_of routers count wire.low low l w.ends.lower p;
  high = IsEnd-end_of routers count wire.high high l w.ends.higher q;
  order = w.ends.order;
}

-- the routers have as many maps as the configurations
abbrev pub HaveMapsOf : List Router → List RouterConfig → Type 0
HaveMapsOf routers configs = (k : ℕ) → map_count routers k ≡ maps_at configs k

IsLink-link_of : (routers : List Router) (configs : List RouterConfig) (count : ℕ) (wire : Wire) → count ≤ length routers → HaveMapsOf routers configs → AllByRecursion IsConfig configs → IsWire count wire → IsLink routers (link_of configs wire)
IsLink-link_of routers configs count wire l maps a w =
    IsLink-joined_by routers count wire (side_at configs wire.low wire.high) (side_at configs wire.high wire.low) l w
    (rw (maps wire.low.router) (IsSide-side_at configs wire.low wire.high a))
    (rw (maps wire.high.router) (IsSide-side_at configs wire.high wire.low a))

pub IsLink-links_of : (routers : List Router) (configs : List RouterConfig) (count : ℕ) (ports : List Port) → count ≤ length routers → HaveMapsOf routers configs → AllByRecursion IsConfig configs → AllByRecursion (IsPort count) ports → All (IsLink routers) (links_of configs (wires ports))
IsLink-links_of routers configs count ports l maps c a =
    All-from_recursion (IsLink routers) (links_of configs (wires ports)) (All-map (λ wire. link_of configs wire) (IsLink routers) (wires ports)
    (AllByRecursion-weaker (IsWire count) (λ wire. IsLink routers (link_of configs wire)) (λ wire w. IsLink-link_of routers configs count wire l maps c w) (wires ports) (IsWire-wires count ports a)))

-- a link has the subnet of its two interfaces
pub subnet-joined_by : (wire : Wire) (low high : Option Side) → (joined_by wire low high).subnet ≡ wire.subnet
subnet-joined_by wire None high = refl
subnet-joined_by wire (Some low) None = refl
subnet-joined_by wire (Some low) (Some high) = refl

pub subnet-link_of : (configs : List RouterConfig) (wire : Wire) → (link_of configs wire).subnet ≡ wire.subnet
subnet-link_of configs wire = subnet-joined_by wire (side_at configs wire.low wire.high) (side_at configs wire.high wire.low)

rises-links_of : (configs : List RouterConfig) (wires : List Wire) → Rises (λ (a b : Wire). prefix_before a.subnet b.subnet) wires → Rises (λ (a b : Wire). prefix_before (link_of configs a).subnet (link_of configs b).subnet) wires
rises-links_of configs [] r = tt
rises-links_of configs (wire ∷ wires) r =
    (AllByRecursion-weaker (λ (b : Wire). prefix_before wire.subnet b.subnet ≡ true) (λ (b : Wire). prefix_before (link_of configs wire).subnet (link_of configs b).subnet ≡ true) (λ b h. rw (subnet-link_of configs wire, subnet-link_of configs b) h) wires r.0, rises-links_of configs wires r.1)

pub subnets-links_of : (configs : List RouterConfig) (ports : List Port) → AllPairs (λ (a b : Link). prefix_before a.subnet b.subnet ≡ true) (links_of configs (wires ports))
subnets-links_of configs ports =
    AllPairs-from_rises (λ a b. prefix_before a.subnet b.subnet) (links_of configs (wires ports))
    (Rises-map (λ wire. link_of configs wire) (λ a b. prefix_before a.subnet b.subnet) (wires ports)
    (rises-links_of configs (wires ports)
    (Rises-filter_map (λ subnet. wire_of subnet (kind_at ports subnet)) (λ wire. wire.subnet) prefix_before (λ subnet. subnet-wire_of subnet (kind_at ports subnet)) (subnets_of ports)
    (Rises-ascending same_prefix prefix_before prefix_order (map (λ port. port.subnet) (filter (λ port. can_link port.loopback port.subnet) ports))))))
