-- What is true of every configuration that is read from a file, as far as building a network needs it.
use Rattle.std.specs.Prelude.{ℕ, ◌≡◌, ◌≢◌, ◌<◌, ◌≤◌, ◌^◌, Bool, true, List, length, Option, IfSome, IsSomeAnd, All, AllPairs}
use Rattle.std.specs.List.{list_any}
use Rattle.net_types.specs.declared.config.RouterConfig.{RouterConfig}
use Rattle.net_types.specs.declared.config.Interface.{Interface}
use Rattle.net_types.specs.declared.config.BgpConfig.{BgpConfig}
use Rattle.net_types.specs.declared.config.Redistribute.{Redistribute}
use Rattle.net_types.specs.declared.config.Redistribute.TheVariants.{No, Plain, By}
use Rattle.net_types.specs.declared.config.Neighbor.{Neighbor}
use Rattle.net_types.specs.declared.config.PrefixList.{PrefixList}
use Rattle.net_types.specs.declared.config.CommunityList.{CommunityList}
use Rattle.net_types.specs.declared.config.CommunityEntry.{CommunityEntry}
use Rattle.net_types.specs.declared.config.RouteMap.{RouteMap}
use Rattle.net_types.specs.declared.config.MapEntry.{MapEntry}
use Rattle.net_types.specs.declared.config.Sets.{Sets}
use Rattle.net_types.specs.declared.config.SetCommunity.{SetCommunity}
use Rattle.net_types.specs.declared.config.SetCommunity.TheVariants.{Keep, Replace, Add, Clear}
use Rattle.net_types.specs.PrefixValue.{PrefixValue, IsPrefix}
use Rattle.net_types.specs.Masks.{masked}
use Rattle.net_types.specs.Order.{same_text}
use Rattle.net_types.specs.NetFacts.{IsWord, IsPrefixList}

-- an interface's address: a number of 32 bits, a length of at least 1, and its subnet
pub record IsAddressed (address : ℕ × PrefixValue) : Type 0 where
  pub word : address.0 < 2 ^ 32
  pub prefix : IsPrefix address.1
  pub long : 1 ≤ address.1.len
  pub subnet : address.1 ≡ masked address.0 address.1.len

-- a written cost
pub record IsCost (cost : ℕ) : Type 0 where
  pub least : 1 ≤ cost
  pub most : cost ≤ 65535

-- an interface's address and cost
pub record IsInterface (interface : Interface) : Type 0 where
  pub address : IfSome interface.address IsAddressed
  pub cost : IfSome interface.cost IsCost

-- the configuration has a prefix list, a community list, a map of this name
abbrev pub has_prefix_list : RouterConfig → List ℕ → Bool
has_prefix_list config name = list_any (λ (l : PrefixList). same_text l.name name) config.prefix_lists

abbrev pub has_community_list : RouterConfig → List ℕ → Bool
has_community_list config name = list_any (λ (l : CommunityList). same_text l.name name) config.community_lists

abbrev pub has_map : RouterConfig → List ℕ → Bool
has_map config name = list_any (λ (m : RouteMap). same_text m.name name) config.maps

-- a name, where there is one, of what the configuration has
abbrev pub IsDefined : (List ℕ → Bool) → Option (List ℕ) → Type 0
IsDefined is_there name = IfSome name (λ n. is_there n ≡ true)

pub record IsCommunityEntry (entry : CommunityEntry) : Type 0 where
  pub seq : entry.seq < 2 ^ 32
  pub values : All (λ c. c < 2 ^ 32) entry.values

pub record IsCommunityList (communities : CommunityList) : Type 0 where
  pub few : length communities.entries ≤ 64
  pub ascending : AllPairs (λ (a b : CommunityEntry). a.seq < b.seq) communities.entries
  pub entries : All IsCommunityEntry communities.entries

abbrev pub IsSetCommunity : SetCommunity → Type 0
IsSetCommunity Keep = Unit {0}
IsSetCommunity (Replace values) = All (λ c. c < 2 ^ 32) values
IsSetCommunity (Add values) = All (λ c. c < 2 ^ 32) values
IsSetCommunity Clear = Unit {0}

-- the AS number is the file's own
abbrev pub IsOwnAs : RouterConfig → ℕ → Type 0
IsOwnAs config asn = IsSomeAnd config.bgp (λ (bgp : BgpConfig). bgp.asn ≡ asn)

pub record IsSets (config : RouterConfig) (sets : Sets) : Type 0 where
  pub weight : IsWord sets.weight
  pub preference : IsWord sets.preference
  pub med : IsWord sets.med
  pub «delete» : IsDefined (has_community_list config) sets.delete
  pub community : IsSetCommunity sets.community
  pub few : length sets.prepend ≤ 10
  pub prepend : All (IsOwnAs config) sets.prepend

pub record IsMapEntry (config : RouterConfig) (entry : MapEntry) : Type 0 where
  pub seq : entry.seq < 2 ^ 16
  pub prefixes : IsDefined (has_prefix_list config) entry.prefixes
  pub communities : IsDefined (has_community_list config) entry.communities
  pub sets : IsSets config entry.sets

pub record IsMap (config : RouterConfig) (map : RouteMap) : Type 0 where
  pub few : length map.entries ≤ 64
  pub ascending : AllPairs (λ (a b : MapEntry). a.seq < b.seq) map.entries
  pub entries : All (IsMapEntry config) map.entries

-- a neighbor of the configuration's BGP, whose maps are there
pub record IsNeighbor (config : RouterConfig) (neighbor : Neighbor) : Type 0 where
  pub address : neighbor.address < 2 ^ 32
  pub asn : neighbor.asn < 2 ^ 32
  pub «import» : IsDefined (has_map config) neighbor.import
  pub «export» : IsDefined (has_map config) neighbor.export

abbrev pub IsRedistribute : RouterConfig → Redistribute → Type 0
IsRedistribute config No = Unit {0}
IsRedistribute config Plain = Unit {0}
IsRedistribute config (By name) = has_map config name ≡ true

-- the BGP part of the configuration: an AS number of at least 1, and no two neighbors of one address
pub record IsBgp (config : RouterConfig) (bgp : BgpConfig) : Type 0 where
  pub least : 1 ≤ bgp.asn
  pub word : bgp.asn < 2 ^ 32
  pub networks : All IsPrefix bgp.networks
  pub connected : IsRedistribute config bgp.connected
  pub ospf : IsRedistribute config bgp.ospf
  pub neighbors : All (IsNeighbor config) bgp.neighbors
  pub addresses : AllPairs (λ (a b : Neighbor). a.address ≢ b.address) bgp.neighbors

-- what building a network needs of a file's configuration: numbers fit, costs and addresses are in range,
-- named lists and maps are there, entries ascend, and what is prepended is the file's own AS
pub record IsConfig (config : RouterConfig) : Type 0 where
  pub interfaces : All IsInterface config.interfaces
  pub ospf : IfSome config.ospf (λ prefixes. All IsPrefix prefixes)
  pub bgp : IfSome config.bgp (λ bgp. IsBgp config bgp)
  pub prefix_lists : All IsPrefixList config.prefix_lists
  pub community_lists : All IsCommunityList config.community_lists
  pub maps : All (IsMap config) config.maps
  pub few_prefix_lists : length config.prefix_lists < 2 ^ 32
  pub few_community_lists : length config.community_lists < 2 ^ 32
  pub few_maps : length config.maps < 2 ^ 32
