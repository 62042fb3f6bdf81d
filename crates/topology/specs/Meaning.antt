-- What the refusals and the lists of a network mean, as relations. The answers of `build` meet them.
use Rattle.std.specs.Prelude.{ℕ, ◌≡◌, ◌<◌, ◌≤◌, ◌⊎◌, ◌↔◌, ◌++◌, nat_lt, Bool, true, false, List, [], ◌∷◌, Option, Some, None, All, AllPairs, Contains, length, Result, Ok, Err, map, slice_get}
use Rattle.std.specs.Option.{option_map_or}
use Rattle.net_types.specs.declared.config.RouterConfig.{RouterConfig}
use Rattle.net_types.specs.declared.config.Interface.{Interface}
use Rattle.net_types.specs.declared.network.Router.{Router}
use Rattle.net_types.specs.declared.refusals.NetRefusal.{NetRefusal}
use Rattle.net_types.specs.declared.refusals.NetRefusal.TheVariants.{SameHost, SameAs, SameAddress, SharedSubnet, TooManyLinks, TooManyCommunities, TooManyRouters, NoMemory}
use Rattle.net_types.specs.declared.config.BgpConfig.{BgpConfig}
use Rattle.net_types.specs.declared.config.Neighbor.{Neighbor}
use Rattle.net_types.specs.declared.network.End.{End}
use Rattle.net_types.specs.declared.network.Link.{Link}
use Rattle.net_types.specs.declared.network.Notice.{Notice}
use Rattle.net_types.specs.declared.network.Policy.TheVariants.{Closed}
use Rattle.net_types.specs.declared.config.Redistribute.TheVariants.{No}
use Rattle.net_types.specs.declared.network.Owned.{Owned}
use Rattle.net_types.specs.PrefixValue.{PrefixValue}
use Rattle.net_types.specs.Prefixes.{prefix_before}
use Rattle.net_types.specs.NetValue.{NetValue}
use Rattle.net_types.specs.NetFacts.{no_export, no_advertise, notice_before}
use Rattle.net_types.specs.Order.{text_before}
use Rattle.topology.specs.declared.interfaces.Port.{Port}
use Rattle.topology.specs.Live.{asn_of, in_order, link_address, ports}
use Rattle.topology.specs.Groups.{group, is_shared, kind_at, wires}
use Rattle.topology.specs.Owning.{stubs, stub_cost, networks_of}
use Rattle.topology.specs.Communities.{communities, named_values}
use Rattle.topology.specs.Resolved.{AreAlike, IsRedistribution, IsCommunityListOf, IsMapOf}
use Rattle.topology.specs.Sessions.{policy_of}
use Rattle.topology.specs.Links.{link_of}

-- the positions i and j of two configurations, i before j, that name one host
pub record HaveOneHost (configs : List RouterConfig) (i j : ℕ) : Type 0 where
  pub first : RouterConfig
  pub second : RouterConfig
  pub first_at : slice_get configs i ≡ Some first
  pub second_at : slice_get configs j ≡ Some second
  pub order : i < j
  pub host : first.host ≡ second.host

-- the positions i and j of two configurations, i before j, that have one AS number
pub record HaveOneAsn (configs : List RouterConfig) (i j : ℕ) : Type 0 where
  pub first : RouterConfig
  pub second : RouterConfig
  pub first_at : slice_get configs i ≡ Some first
  pub second_at : slice_get configs j ≡ Some second
  pub order : i < j
  pub asn : ℕ
  pub first_has : asn_of first ≡ Some asn
  pub second_has : asn_of second ≡ Some asn

-- place k of the configuration at i comes before place l of the one at j
abbrev pub IsEarlier : ℕ → ℕ → ℕ → ℕ → Type 0
IsEarlier i k j l = (i < j) ⊎ ((i ≡ j) × (k < l))

-- the positions i and j of two configurations, maybe of one, in which two live interfaces that can be ends
-- of links have one address
pub record HaveOneAddress (configs : List RouterConfig) (i j : ℕ) : Type 0 where
  pub first : RouterConfig
  pub second : RouterConfig
  pub first_at : slice_get configs i ≡ Some first
  pub second_at : slice_get configs j ≡ Some second
  pub k : ℕ
  pub l : ℕ
  pub order : IsEarlier i k j l
  pub one : Interface
  pub other : Interface
  pub one_at : slice_get first.interfaces k ≡ Some one
  pub other_at : slice_get second.interfaces l ≡ Some other
  pub address : ℕ
  pub one_has : link_address one ≡ Some address
  pub other_has : link_address other ≡ Some address

-- the pair i, j is not greater than k, l: by the first, then by the second
abbrev pub IsUpTo : ℕ → ℕ → ℕ → ℕ → Type 0
IsUpTo i j k l = (i < k) ⊎ ((i ≡ k) × (j ≤ l))

-- i and j meet, and no less pair does
pub record IsLeastPair (Meet : ℕ → ℕ → Type 0) (i j : ℕ) : Type 0 where
  pub meets : Meet i j
  pub least : (k l : ℕ) → Meet k l → IsUpTo i j k l

-- no pair meets
abbrev pub NoPair : (ℕ → ℕ → Type 0) → Type 0
NoPair Meet = (i j : ℕ) → Meet i j → ⊥

-- no pair of positions has one host, one AS number or one address
pub record NoneMeet (configs : List RouterConfig) : Type 0 where
  pub hosts : NoPair (HaveOneHost configs)
  pub asns : NoPair (HaveOneAsn configs)
  pub addresses : NoPair (HaveOneAddress configs)

-- a refusal for a pair names the least, hosts being tried first, then AS numbers, then addresses; any other
-- answer, but for want of memory, says that no pair meets
abbrev pub NamesLeastPair : {A : Type 0} → List RouterConfig → Result A NetRefusal → Type 0
NamesLeastPair configs (Err NoMemory) = Unit {0}
NamesLeastPair configs (Err (SameHost i j)) = IsLeastPair (HaveOneHost configs) i j
NamesLeastPair configs (Err (SameAs i j)) = NoPair (HaveOneHost configs) × IsLeastPair (HaveOneAsn configs) i j
NamesLeastPair configs (Err (SameAddress i j)) = NoPair (HaveOneHost configs) × NoPair (HaveOneAsn configs) ×
    IsLeastPair (HaveOneAddress configs) i j
NamesLeastPair configs _ = NoneMeet configs

-- ys holds what xs holds, each once, in ascending order
pub record IsAscending {A : Type 0} (before : A → A → Bool) (xs ys : List A) : Type 0 where
  pub rises : AllPairs (λ a b. before a b ≡ true) ys
  pub taken : All (λ y. Contains xs y) ys
  pub complete : All (λ x. Contains ys x) xs

-- the group of the subnet is these two interfaces, and the first is at the router with the lower number
pub record AreLinked (ports : List Port) (subnet : PrefixValue) (low high : Port) : Type 0 where
  pub pair : (group ports subnet ≡ low ∷ high ∷ []) ⊎ (group ports subnet ≡ high ∷ low ∷ [])
  pub order : low.router < high.router

-- the link of two interfaces that are the group of its subnet, at routers with these configurations
pub record IsLinkOf (configs : List RouterConfig) (ports : List Port) (link : Link) : Type 0 where
  pub low : Port
  pub high : Port
  pub linked : AreLinked ports link.subnet low high
  pub is : link ≡ link_of configs (record { subnet = link.subnet; low = low; high = high })

-- the links of the interfaces: each group of two on two routers, in the order of subnets
pub record AreLinks (configs : List RouterConfig) (ports : List Port) (links : List Link) : Type 0 where
  pub rise : AllPairs (λ (a b : Link). prefix_before a.subnet b.subnet ≡ true) links
  pub each : All (IsLinkOf configs ports) links
  pub complete : (subnet : PrefixValue) (low high : Port) → AreLinked ports subnet low high →
      Contains links (link_of configs (record { subnet = subnet; low = low; high = high }))

-- the router at one end of a link has a neighbor line with the other end's address and the AS number of the
-- router there
pub record HasLineFor (configs : List RouterConfig) (here there : End) : Type 0 where
  pub config : RouterConfig
  pub other : RouterConfig
  pub config_at : slice_get configs here.router ≡ Some config
  pub other_at : slice_get configs there.router ≡ Some other
  pub bgp : BgpConfig
  pub runs : config.bgp ≡ Some bgp
  pub neighbor : Neighbor
  pub line : Contains bgp.neighbors neighbor
  pub address : neighbor.address ≡ there.address
  pub asn : asn_of other ≡ Some neighbor.asn

-- a link is a session exactly where each end's router has such a line for the other
abbrev pub IsSessionByLines : List RouterConfig → Link → Type 0
IsSessionByLines configs link = (link.session ≡ true) ↔ (HasLineFor configs link.low link.high × HasLineFor configs link.high link.low)

-- the router at one end of a session has the policies of its neighbor line: the map of each direction, or
-- what is done without one
pub record HasPolicies (configs : List RouterConfig) (here there : End) : Type 0 where
  pub by : HasLineFor configs here there
  pub «import» : here.import ≡ policy_of by.config.maps by.bgp.needs_policy by.neighbor.import
  pub «export» : here.export ≡ policy_of by.config.maps by.bgp.needs_policy by.neighbor.export

-- nothing comes in or goes out
pub record IsClosed (end : End) : Type 0 where
  pub «import» : end.import ≡ Closed
  pub «export» : end.export ≡ Closed

-- both ends of a session have the policies of their lines, and those of any other link are closed
pub record HasSides (configs : List RouterConfig) (link : Link) : Type 0 where
  pub session : link.session ≡ true → HasPolicies configs link.low link.high × HasPolicies configs link.high link.low
  pub other : link.session ≡ false → IsClosed link.low × IsClosed link.high

-- the link is a session of this router with this address at the other end
pub record IsSessionWith (router address : ℕ) (link : Link) : Type 0 where
  pub session : link.session ≡ true
  pub far : ((link.low.router ≡ router) × (link.high.address ≡ address)) ⊎ ((link.high.router ≡ router) × (link.low.address ≡ address))

-- a router's neighbor line that makes no session
pub record IsIdleLine (configs : List RouterConfig) (links : List Link) (notice : Notice) : Type 0 where
  pub config : RouterConfig
  pub config_at : slice_get configs notice.router ≡ Some config
  pub bgp : BgpConfig
  pub runs : config.bgp ≡ Some bgp
  pub neighbor : Neighbor
  pub line : Contains bgp.neighbors neighbor
  pub address : neighbor.address ≡ notice.address
  pub idle : (link : Link) → Contains links link → IsSessionWith notice.router notice.address link → ⊥

-- the notices: one for each neighbor line that makes no session, by router and then by address
pub record AreNotices (configs : List RouterConfig) (links : List Link) (notices : List Notice) : Type 0 where
  pub rise : AllPairs (λ (a b : Notice). notice_before a b ≡ true) notices
  pub each : All (IsIdleLine configs links) notices
  pub complete : (notice : Notice) → IsIdleLine configs links notice → Contains notices notice

-- a stub of the prefix that runs OSPF
pub record RunsOspfAt (prefix : PrefixValue) (port : Port) : Type 0 where
  pub runs : port.ospf ≡ true
  pub subnet : port.subnet ≡ prefix

-- the least cost of the stubs of the prefix that run OSPF, or none where there is no such stub
abbrev pub IsLeastCost : List Port → PrefixValue → Option ℕ → Type 0
IsLeastCost stubs prefix None = (port : Port) → Contains stubs port → RunsOspfAt prefix port → ⊥
IsLeastCost stubs prefix (Some cost) =
    ((port : Port) × Contains stubs port × RunsOspfAt prefix port × (stub_cost port ≡ cost)) ×
    ((port : Port) → Contains stubs port → RunsOspfAt prefix port → cost ≤ stub_cost port)

-- what a router with these stubs and `network` lines owns: their prefixes, with the least costs of stubs
pub record AreOwned (stubs : List Port) (networks : List PrefixValue) (owned : List Owned) : Type 0 where
  pub prefixes : IsAscending prefix_before (map (λ port. port.subnet) stubs ++ networks) (map (λ entry. entry.prefix) owned)
  pub costs : All (λ (entry : Owned). IsLeastCost stubs entry.prefix entry.ospf_cost) owned
  pub from_networks : All (λ (entry : Owned). (entry.network ≡ true) ↔ Contains networks entry.prefix) owned
  pub from_stubs : All (λ (entry : Owned). (entry.stub ≡ true) ↔ Contains (map (λ port. port.subnet) stubs) entry.prefix) owned

-- the router of this number: its configuration, its AS number, what it owns, what it redistributes, and its
-- lists and maps, with the numbers of these communities
pub record IsRouterOf (configs : List RouterConfig) (communities : List ℕ) (k : ℕ) (router : Router) : Type 0 where
  pub config : RouterConfig
  pub config_at : slice_get (in_order configs) k ≡ Some config
  pub host : router.host ≡ config.host
  pub asn : router.asn ≡ asn_of config
  pub owned : AreOwned (stubs (ports configs) k) (networks_of config) router.owned
  pub connected : IsRedistribution config.maps (option_map_or (λ (bgp : BgpConfig). bgp.connected) config.bgp No) router.connected
  pub ospf : IsRedistribution config.maps (option_map_or (λ (bgp : BgpConfig). bgp.ospf) config.bgp No) router.ospf
  pub prefix_lists : router.prefix_lists ≡ config.prefix_lists
  pub community_lists : AreAlike (IsCommunityListOf communities) config.community_lists router.community_lists
  pub maps : AreAlike (IsMapOf communities config) config.maps router.maps

-- the network of configurations: its routers by their hosts, its links, which of them are sessions with what
-- policies, its communities with the two of RFC 1997, and its notices
pub record IsNetworkOf (configs : List RouterConfig) (net : NetValue) : Type 0 where
  pub hosts : IsAscending text_before (map (λ (config : RouterConfig). config.host) configs) (map (λ (router : Router). router.host) net.routers)
  pub routers : (k : ℕ) (router : Router) → slice_get net.routers k ≡ Some router → IsRouterOf configs net.communities k router
  pub links : AreLinks (in_order configs) (ports configs) net.links
  pub sessions : All (IsSessionByLines (in_order configs)) net.links
  pub sides : All (HasSides (in_order configs)) net.links
  pub communities : IsAscending nat_lt (no_export ∷ no_advertise ∷ named_values configs) net.communities
  pub notices : AreNotices (in_order configs) net.links net.notices

-- the router at the end of a link has an AS number
pub record HasAsn (net : NetValue) (end : End) : Type 0 where
  pub router : Router
  pub there : slice_get net.routers end.router ≡ Some router
  pub asn : ℕ
  pub has : router.asn ≡ Some asn

-- each session is between two routers that have AS numbers
abbrev pub SessionsHaveAsns : NetValue → Type 0
SessionsHaveAsns net = All (λ (link : Link). link.session ≡ true → HasAsn net link.low × HasAsn net link.high) net.links

-- the group of the subnet is refused: it has an interface, and is neither one nor two on two routers
pub record IsRefused (ports : List Port) (subnet : PrefixValue) : Type 0 where
  pub port : Port
  pub there : Contains (group ports subnet) port
  pub shared : is_shared (kind_at ports subnet) ≡ true

-- the group of the subnet is refused, and that of no subnet before it
pub record IsLeastRefused (ports : List Port) (subnet : PrefixValue) : Type 0 where
  pub refused : IsRefused ports subnet
  pub least : (other : PrefixValue) → IsRefused ports other → prefix_before other subnet ≡ false

abbrev pub NoneRefused : List Port → Type 0
NoneRefused ports = (subnet : PrefixValue) → IsRefused ports subnet → ⊥

-- at most 64 links, at most 64 communities
abbrev pub HasFewLinks : List RouterConfig → Type 0
HasFewLinks configs = length (wires (ports configs)) ≤ 64

abbrev pub HasFewCommunities : List RouterConfig → Type 0
HasFewCommunities configs = length (communities configs) ≤ 64

-- a refusal for a subnet names the least; a network, and a refusal that is tried later, says that no group
-- is refused; a refusal for a number names what was counted, which is more than 64: links first, then
-- communities, then routers
abbrev pub NamesWhole : List RouterConfig → Result NetValue NetRefusal → Type 0
NamesWhole configs (Ok net) = NoneRefused (ports configs) × HasFewLinks configs × HasFewCommunities configs × (length configs ≤ 64)
NamesWhole configs (Err (SharedSubnet subnet)) = IsLeastRefused (ports configs) subnet
NamesWhole configs (Err (TooManyLinks n)) = NoneRefused (ports configs) × (n ≡ length (wires (ports configs))) × (64 < n)
NamesWhole configs (Err (TooManyCommunities n)) = NoneRefused (ports configs) × HasFewLinks configs ×
    (n ≡ length (communities configs)) × (64 < n)
NamesWhole configs (Err (TooManyRouters n)) = NoneRefused (ports configs) × HasFewLinks configs × HasFewCommunities configs ×
    (n ≡ length configs) × (64 < n)
NamesWhole configs _ = Unit {0}
