-- What the policies, lists and maps of a router mean, as relations to what its configuration says.
use Rattle.std.specs.Prelude.{ℕ, ◌≡◌, ◌≤◌, List, Option, Some, None, length, slice_get}
use Rattle.net_types.specs.declared.config.RouterConfig.{RouterConfig}
use Rattle.net_types.specs.declared.config.PrefixList.{PrefixList}
use Rattle.net_types.specs.declared.config.CommunityList.{CommunityList}
use Rattle.net_types.specs.declared.config.CommunityEntry.{CommunityEntry}
use Rattle.net_types.specs.declared.config.RouteMap.{RouteMap}
use Rattle.net_types.specs.declared.config.MapEntry.{MapEntry}
use Rattle.net_types.specs.declared.config.Sets.{Sets}
use Rattle.net_types.specs.declared.config.SetCommunity.{SetCommunity}
use Rattle.net_types.specs.declared.config.SetCommunity.TheVariants.{Keep, Replace, Add, Clear}
use Rattle.net_types.specs.declared.config.Redistribute.{Redistribute}
use Rattle.net_types.specs.declared.config.Redistribute.TheVariants.{No, Plain, By}
use Rattle.net_types.specs.declared.network.NetCommunityList.{NetCommunityList}
use Rattle.net_types.specs.declared.network.NetCommunityEntry.{NetCommunityEntry}
use Rattle.net_types.specs.declared.network.NetMap.{NetMap}
use Rattle.net_types.specs.declared.network.NetMapEntry.{NetMapEntry}
use Rattle.net_types.specs.declared.network.NetSets.{NetSets}
use Rattle.net_types.specs.declared.network.NetSetCommunity.{NetSetCommunity}
use Rattle.net_types.specs.declared.network.Policy.{Policy}
use Rattle.net_types.specs.declared.network.Policy.TheVariants.{Closed, Open, Map}
use Rattle.topology.specs.Communities.{IsSetOf}

-- the lists are of one length, and each two at one position are related
pub record AreAlike {A B : Type 0} (Related : A → B → Type 0) (xs : List A) (ys : List B) : Type 0 where
  pub long : length ys ≡ length xs
  pub each : (k : ℕ) (x : A) (y : B) → slice_get xs k ≡ Some x → slice_get ys k ≡ Some y → Related x y

-- k is the position of the first item of this name
pub record IsFirstNamed {A : Type 0} (name_of : A → List ℕ) (items : List A) (name : List ℕ) (k : ℕ) : Type 0 where
  pub item : A
  pub there : slice_get items k ≡ Some item
  pub named : name_of item ≡ name
  pub first : (j : ℕ) (other : A) → slice_get items j ≡ Some other → name_of other ≡ name → k ≤ j

-- a name, where there is one, and the position that stands for it
abbrev pub IsPlaceOf : {A : Type 0} → (A → List ℕ) → List A → Option (List ℕ) → Option ℕ → Type 0
IsPlaceOf name_of items None place = place ≡ None
IsPlaceOf name_of items (Some name) place = (k : ℕ) × (place ≡ Some k) × IsFirstNamed name_of items name k

-- a redistribution: without its line nothing is taken, without a map all, else by the first map of its name
abbrev pub IsRedistribution : List RouteMap → Redistribute → Policy → Type 0
IsRedistribution maps No policy = policy ≡ Closed
IsRedistribution maps Plain policy = policy ≡ Open
IsRedistribution maps (By name) policy = (k : ℕ) × (policy ≡ Map k) × IsFirstNamed (λ (routes : RouteMap). routes.name) maps name k

-- what is done with communities, with numbers in the place of values
abbrev pub IsChangeOf : List ℕ → SetCommunity → NetSetCommunity → Type 0
IsChangeOf communities Keep change = change ≡ NetSetCommunity.Keep
IsChangeOf communities (Replace values) change = (set : ℕ) × (change ≡ NetSetCommunity.Replace set) × IsSetOf communities values set
IsChangeOf communities (Add values) change = (set : ℕ) × (change ≡ NetSetCommunity.Add set) × IsSetOf communities values set
IsChangeOf communities Clear change = change ≡ NetSetCommunity.Clear

pub record AreSetsOf (communities : List ℕ) (config : RouterConfig) (written : Sets) (sets : NetSets) : Type 0 where
  pub weight : sets.weight ≡ written.weight
  pub preference : sets.preference ≡ written.preference
  pub med : sets.med ≡ written.med
  pub origin : sets.origin ≡ written.origin
  pub «delete» : IsPlaceOf (λ (l : CommunityList). l.name) config.community_lists written.delete sets.delete
  pub community : IsChangeOf communities written.community sets.community
  pub prepend : sets.prepend ≡ length written.prepend

pub record IsEntryOf (all : List ℕ) (config : RouterConfig) (written : MapEntry) (entry : NetMapEntry) : Type 0 where
  pub seq : entry.seq ≡ written.seq
  pub permit : entry.permit ≡ written.permit
  pub prefixes : IsPlaceOf (λ (l : PrefixList). l.name) config.prefix_lists written.prefixes entry.prefixes
  pub communities : IsPlaceOf (λ (l : CommunityList). l.name) config.community_lists written.communities entry.communities
  pub sets : AreSetsOf all config written.sets entry.sets

pub record IsMapOf (communities : List ℕ) (config : RouterConfig) (written : RouteMap) (map : NetMap) : Type 0 where
  pub name : map.name ≡ written.name
  pub entries : AreAlike (IsEntryOf communities config) written.entries map.entries

pub record IsCommunityEntryOf (communities : List ℕ) (written : CommunityEntry) (entry : NetCommunityEntry) : Type 0 where
  pub seq : entry.seq ≡ written.seq
  pub permit : entry.permit ≡ written.permit
  pub values : IsSetOf communities written.values entry.values

pub record IsCommunityListOf (communities : List ℕ) (written : CommunityList) (l : NetCommunityList) : Type 0 where
  pub name : l.name ≡ written.name
  pub entries : AreAlike (IsCommunityEntryOf communities) written.entries l.entries
