-- What is true of every network.
use Rattle.std.specs.Prelude.{ℕ, ◌≡◌, ◌≢◌, ◌<◌, ◌≤◌, ◌^◌, ◌==◌, ◌&&◌, ◌||◌, nat_lt, Bool, true, List, length, Option, IfSome, All, AllPairs, Contains, slice_get}
use Rattle.std.specs.Option.{option_map_or}
use Rattle.net_types.specs.declared.config.PrefixList.{PrefixList}
use Rattle.net_types.specs.declared.config.PrefixEntry.{PrefixEntry}
use Rattle.net_types.specs.declared.network.Router.{Router}
use Rattle.net_types.specs.declared.network.Owned.{Owned}
use Rattle.net_types.specs.declared.network.Link.{Link}
use Rattle.net_types.specs.declared.network.End.{End}
use Rattle.net_types.specs.declared.network.Policy.{Policy}
use Rattle.net_types.specs.declared.network.Policy.TheVariants.{Closed, Open, Map}
use Rattle.net_types.specs.declared.network.Notice.{Notice}
use Rattle.net_types.specs.declared.network.NetCommunityList.{NetCommunityList}
use Rattle.net_types.specs.declared.network.NetCommunityEntry.{NetCommunityEntry}
use Rattle.net_types.specs.declared.network.NetMap.{NetMap}
use Rattle.net_types.specs.declared.network.NetMapEntry.{NetMapEntry}
use Rattle.net_types.specs.declared.network.NetSets.{NetSets}
use Rattle.net_types.specs.declared.network.NetSetCommunity.{NetSetCommunity}
use Rattle.net_types.specs.declared.network.NetSetCommunity.TheVariants.{Keep, Replace, Add, Clear}
use Rattle.net_types.specs.PrefixValue.{IsPrefix}
use Rattle.net_types.specs.Prefixes.{prefix_before}
use Rattle.net_types.specs.Order.{text_before}
use Rattle.net_types.specs.Sets.{has}
use Rattle.net_types.specs.NetValue.{NetValue}

-- NO_EXPORT and NO_ADVERTISE of RFC 1997
abbrev pub no_export : ℕ
no_export = 0xFFFFFF01

abbrev pub no_advertise : ℕ
no_advertise = 0xFFFFFF02

-- a number of 32 bits, where there is one
abbrev pub IsWord : Option ℕ → Type 0
IsWord number = IfSome number (λ n. n < 2 ^ 32)

-- a position in a list of that length, where there is one
abbrev pub IsPlace : ℕ → Option ℕ → Type 0
IsPlace count place = IfSome place (λ k. k < count)

-- a set of numbers of communities, of which there are so many
pub record IsMask (count mask : ℕ) : Type 0 where
  pub word : mask < 2 ^ 64
  pub named : (c : ℕ) → has mask c ≡ true → c < count

-- a policy names one of a router's maps, of which there are so many
abbrev pub IsPolicy : ℕ → Policy → Type 0
IsPolicy count Closed = Unit {0}
IsPolicy count Open = Unit {0}
IsPolicy count (Map position) = position < count

-- an entry's lengths lie between its prefix's length and 32
pub record IsPrefixEntry (entry : PrefixEntry) : Type 0 where
  pub seq : entry.seq < 2 ^ 32
  pub prefix : IsPrefix entry.prefix
  pub least : entry.prefix.len ≤ entry.least
  pub most : entry.least ≤ entry.most
  pub fits : entry.most ≤ 32

pub record IsPrefixList (prefixes : PrefixList) : Type 0 where
  pub few : length prefixes.entries ≤ 64
  pub ascending : AllPairs (λ (a b : PrefixEntry). a.seq < b.seq) prefixes.entries
  pub entries : All IsPrefixEntry prefixes.entries

pub record IsNetCommunityEntry (count : ℕ) (entry : NetCommunityEntry) : Type 0 where
  pub seq : entry.seq < 2 ^ 32
  pub values : IsMask count entry.values

pub record IsNetCommunityList (count : ℕ) (communities : NetCommunityList) : Type 0 where
  pub few : length communities.entries ≤ 64
  pub ascending : AllPairs (λ (a b : NetCommunityEntry). a.seq < b.seq) communities.entries
  pub entries : All (IsNetCommunityEntry count) communities.entries

abbrev pub IsNetCommunitySet : ℕ → NetSetCommunity → Type 0
IsNetCommunitySet count Keep = Unit {0}
IsNetCommunitySet count (Replace mask) = IsMask count mask
IsNetCommunitySet count (Add mask) = IsMask count mask
IsNetCommunitySet count Clear = Unit {0}

-- sets of a map's entry, at so many communities of the network and community lists of the router
pub record IsNetSets (count lists : ℕ) (sets : NetSets) : Type 0 where
  pub weight : IsWord sets.weight
  pub preference : IsWord sets.preference
  pub med : IsWord sets.med
  pub «delete» : IsPlace lists sets.delete
  pub community : IsNetCommunitySet count sets.community
  pub prepend : sets.prepend ≤ 10

pub record IsNetMapEntry (count : ℕ) (router : Router) (entry : NetMapEntry) : Type 0 where
  pub seq : entry.seq < 2 ^ 16
  pub prefixes : IsPlace (length router.prefix_lists) entry.prefixes
  pub communities : IsPlace (length router.community_lists) entry.communities
  pub sets : IsNetSets count (length router.community_lists) entry.sets

pub record IsNetMap (count : ℕ) (router : Router) (map : NetMap) : Type 0 where
  pub few : length map.entries ≤ 64
  pub ascending : AllPairs (λ (a b : NetMapEntry). a.seq < b.seq) map.entries
  pub entries : All (IsNetMapEntry count router) map.entries

-- an owned prefix, and the cost of its stub
pub record IsOwned (entry : Owned) : Type 0 where
  pub prefix : IsPrefix entry.prefix
  pub cost : IfSome entry.ospf_cost (λ cost. cost ≤ 65535)

-- a router, in a network of so many communities
pub record IsRouter (count : ℕ) (router : Router) : Type 0 where
  pub asn : IsWord router.asn
  pub ascending : AllPairs (λ (a b : Owned). prefix_before a.prefix b.prefix ≡ true) router.owned
  pub owned : All IsOwned router.owned
  pub connected : IsPolicy (length router.maps) router.connected
  pub ospf : IsPolicy (length router.maps) router.ospf
  pub prefix_lists : All IsPrefixList router.prefix_lists
  pub community_lists : All (IsNetCommunityList count) router.community_lists
  pub maps : All (IsNetMap count router) router.maps

-- how many maps the router has
abbrev pub map_count : List Router → ℕ → ℕ
map_count routers u = option_map_or (λ router. length router.maps) (slice_get routers u) 0

-- an end of a link: its cost is 1 to 65,535, and its policies name maps of its router
pub record IsEnd (routers : List Router) (end : End) : Type 0 where
  pub router : end.router < length routers
  pub address : end.address < 2 ^ 32
  pub least : 1 ≤ end.cost
  pub most : end.cost ≤ 65535
  pub «import» : IsPolicy (map_count routers end.router) end.import
  pub «export» : IsPolicy (map_count routers end.router) end.export

-- a link, from the router with the lower number to the one with the higher
pub record IsLink (routers : List Router) (link : Link) : Type 0 where
  pub subnet : IsPrefix link.subnet
  pub low : IsEnd routers link.low
  pub high : IsEnd routers link.high
  pub order : link.low.router < link.high.router

pub record IsNotice (routers : List Router) (notice : Notice) : Type 0 where
  pub router : notice.router < length routers
  pub address : notice.address < 2 ^ 32

-- the order of notices: by router, then by address
abbrev pub notice_before : Notice → Notice → Bool
notice_before a b = nat_lt a.router b.router || ((a.router == b.router) && nat_lt a.address b.address)

-- the AS numbers differ, where both are there
abbrev pub AreApart : Option ℕ → Option ℕ → Type 0
AreApart a b = IfSome a (λ m. IfSome b (λ n. m ≢ n))

-- a network: routers ascend by host, and no two have one AS number; links ascend by subnet; communities ascend
-- and hold the two of RFC 1997; notices ascend by router and address; there are at most 64 routers, links and
-- communities; each position, router number and number of a community is inside its list, and each written number
-- fits its type
pub record IsNet (net : NetValue) : Type 0 where
  pub few_routers : length net.routers ≤ 64
  pub hosts : AllPairs (λ (a b : Router). text_before a.host b.host ≡ true) net.routers
  pub asns : AllPairs (λ (a b : Router). AreApart a.asn b.asn) net.routers
  pub routers : All (IsRouter (length net.communities)) net.routers
  pub few_links : length net.links ≤ 64
  pub subnets : AllPairs (λ (a b : Link). prefix_before a.subnet b.subnet ≡ true) net.links
  pub links : All (IsLink net.routers) net.links
  pub few_communities : length net.communities ≤ 64
  pub communities : AllPairs (λ (a b : ℕ). a < b) net.communities
  pub words : All (λ c. c < 2 ^ 32) net.communities
  pub no_export : Contains net.communities no_export
  pub no_advertise : Contains net.communities no_advertise
  pub notices : All (IsNotice net.routers) net.notices
  pub ordered : AllPairs (λ (a b : Notice). notice_before a b ≡ true) net.notices
