-- Lists and maps of a router are valid: their positions are inside its lists, and their entries ascend.
use Rattle.std.proofs.Common.{ℕ, ◌≡◌, ◌+◌, ◌≤◌, ◌<◌, ◌||◌, Bool, true, false, not, cond, List, [], ◌∷◌, length, map, arith, All, Option, Some, None}
use Rattle.std.specs.List.{list_any, position_or_len}
use Rattle.std.specs.Option.{option_map}
use Rattle.std.proofs.lemmas.Bool.{false≢true}
use Rattle.std.proofs.lemmas.List.{length-map}
use Rattle.std.proofs.lemmas.List.Elements.{All-from_recursion, recursion_from_All}
use Rattle.net_types.specs.Order.{same_text}
use Rattle.net_types.specs.ConfigFacts.{IsCommunityList, IsCommunityEntry, IsMap, IsMapEntry, IsSets, IsDefined}
use Rattle.net_types.specs.NetFacts.{IsPlace, IsNetCommunityList, IsNetCommunityEntry, IsNetCommunitySet, IsNetSets, IsNetMapEntry, IsNetMap}
use Rattle.net_types.specs.declared.config.RouterConfig.{RouterConfig}
use Rattle.net_types.specs.declared.config.PrefixList.{PrefixList}
use Rattle.net_types.specs.declared.config.CommunityList.{CommunityList}
use Rattle.net_types.specs.declared.config.CommunityEntry.{CommunityEntry}
use Rattle.net_types.specs.declared.config.RouteMap.{RouteMap}
use Rattle.net_types.specs.declared.config.MapEntry.{MapEntry}
use Rattle.net_types.specs.declared.config.Sets.{Sets}
use Rattle.net_types.specs.declared.config.SetCommunity.{SetCommunity}
use Rattle.net_types.specs.declared.config.SetCommunity.TheVariants.{Keep, Replace, Add, Clear}
use Rattle.net_types.specs.declared.network.NetCommunityEntry.{NetCommunityEntry}
use Rattle.net_types.specs.declared.network.NetMapEntry.{NetMapEntry}
use Rattle.net_types.specs.declared.network.Router.{Router}
use Rattle.topology.specs.Resolving.{net_community_entry, net_community_list, net_set_community, net_sets, whole_entry, net_map}
use Rattle.topology.proofs.RisingLemmas.{AllByRecursion-weaker, All-map, AllPairs-map}
use Rattle.topology.proofs.SetLemmas.{IsMask-set_of}

-- the first that passes stands in the list, where one passes
pub place-within : {A : Type 0} (p : A → Bool) (xs : List A) → list_any p xs ≡ true → position_or_len p xs < length xs
place-within p [] h = absurd (false≢true h)
place-within p (x ∷ xs) h = go (p x) h (λ t. place-within p xs t) where
  go : (b : Bool) → (b || list_any p xs) ≡ true → (list_any p xs ≡ true → position_or_len p xs < length xs) → cond (not b) (1 + position_or_len p xs) 0 < length (x ∷ xs)
  go true t later = omega arith
  go false t later = let l = later t in omega arith

-- the place of a name that is there
IsPlace-named : {A : Type 0} (name_of : A → List ℕ) (items : List A) (name : Option (List ℕ)) → IsDefined (λ n. list_any (λ x. same_text (name_of x) n) items) name → IsPlace (length items) (option_map (λ n. position_or_len (λ x. same_text (name_of x) n) items) name)
IsPlace-named name_of items None h = tt
IsPlace-named name_of items (Some n) h = place-within (λ x. same_text (name_of x) n) items h

IsPlace-mapped : {A B : Type 0} (f : A → B) (name_of : A → List ℕ) (items : List A) (name : Option (List ℕ)) → IsDefined (λ n. list_any (λ x. same_text (name_of x) n) items) name → IsPlace (length (map f items)) (option_map (λ n. position_or_len (λ x. same_text (name_of x) n) items) name)
IsPlace-mapped f name_of items name h = rw (length-map items f) (IsPlace-named name_of items name h)

IsNetCommunityEntry-at : (communities : List ℕ) (entry : CommunityEntry) → length communities ≤ 64 → IsCommunityEntry entry → IsNetCommunityEntry (length communities) (net_community_entry communities entry)
IsNetCommunityEntry-at communities entry few e = record { seq = e.seq; values = IsMask-set_of communities entry.values few }

IsNetCommunityList-at : (communities : List ℕ) (l : CommunityList) → length communities ≤ 64 → IsCommunityList l → IsNetCommunityList (length communities) (net_community_list communities l)
IsNetCommunityList-at communities l few h = record {
  few = rw (length-map l.entries (λ entry. net_community_entry communities entry)) h.few;
  ascending = AllPairs-map (λ (a b : NetCommunityEntry). a.seq < b.seq) (λ entry. net_community_entry communities entry) l.entries h.ascending;
  entries = All-from_recursion (IsNetCommunityEntry (length communities)) (map (λ entry. net_community_entry communities entry) l.entries)
      (All-map (λ entry. net_community_entry communities entry) (IsNetCommunityEntry (length communities)) l.entries
      (AllByRecursion-weaker IsCommunityEntry (λ entry. IsNetCommunityEntry (length communities) (net_community_entry communities entry)) (λ entry e. IsNetCommunityEntry-at communities entry few e) l.entries (recursion_from_All IsCommunityEntry l.entries h.entries)));
}

pub IsNetCommunityList-all : (communities : List ℕ) (lists : List CommunityList) → length communities ≤ 64 → All IsCommunityList lists → All (IsNetCommunityList (length communities)) (map (λ l. net_community_list communities l) lists)
IsNetCommunityList-all communities lists few h =
    All-from_recursion (IsNetCommunityList (length communities)) (map (λ l. net_community_list communities l) lists)
    (All-map (λ l. net_community_list communities l) (IsNetCommunityList (length communities)) lists
    (AllByRecursion-weaker IsCommunityList (λ l. IsNetCommunityList (length communities) (net_community_list communities l)) (λ l e. IsNetCommunityList-at communities l few e) lists (recursion_from_All IsCommunityList lists h)))

IsNetCommunitySet-at : (communities : List ℕ) (set : SetCommunity) → length communities ≤ 64 → IsNetCommunitySet (length communities) (net_set_community communities set)
IsNetCommunitySet-at communities Keep few = tt
IsNetCommunitySet-at communities (Replace values) few = IsMask-set_of communities values few
IsNetCommunitySet-at communities (Add values) few = IsMask-set_of communities values few
IsNetCommunitySet-at communities Clear few = tt

IsNetSets-at : (communities : List ℕ) (config : RouterConfig) (sets : Sets) → length communities ≤ 64 → IsSets config sets → IsNetSets (length communities) (length (map (λ l. net_community_list communities l) config.community_lists)) (net_sets (net_set_community communities sets.community) config sets)
IsNetSets-at communities config sets few s = record {
  weight = s.weight;
  preference = s.preference;
  med = s.med;
  «delete» = IsPlace-mapped (λ l. net_community_list communities l) (λ (l : CommunityList). l.name) config.community_lists sets.delete s.delete;
  community = IsNetCommunitySet-at communities sets.community few;
  prepend = s.few;
}

-- the router has the lists of the configuration
pub record HasLists (communities : List ℕ) (config : RouterConfig) (router : Router) : Type 0 where
  pub prefix_lists : router.prefix_lists ≡ config.prefix_lists
  pub community_lists : router.community_lists ≡ map (λ l. net_community_list communities l) config.community_lists

IsNetMapEntry-at : (communities : List ℕ) (config : RouterConfig) (router : Router) (entry : MapEntry) → length communities ≤ 64 → HasLists communities config router → IsMapEntry config entry → IsNetMapEntry (length communities) router (whole_entry communities config entry)
IsNetMapEntry-at communities config router entry few has e = record {
  seq = e.seq;
  prefixes = rw has.prefix_lists (IsPlace-named (λ (l : PrefixList). l.name) config.prefix_lists entry.prefixes e.prefixes);
  communities = rw has.community_lists (IsPlace-mapped (λ l. net_community_list communities l) (λ (l : CommunityList). l.name) config.community_lists entry.communities e.communities);
  sets = rw has.community_lists (IsNetSets-at communities config entry.sets few e.sets);
}

IsNetMap-at : (communities : List ℕ) (config : RouterConfig) (router : Router) (routes : RouteMap) → length communities ≤ 64 → HasLists communities config router → IsMap config routes → IsNetMap (length communities) router (net_map communities config routes)
IsNetMap-at communities config router routes few has h = record {
  few = rw (length-map routes.entries (λ (entry : MapEntry). whole_entry communities config entry)) h.few;
  ascending = AllPairs-map (λ (a b : NetMapEntry). a.seq < b.seq) (λ (entry : MapEntry). whole_entry communities config entry) routes.entries h.ascending;
  entries = All-from_recursion (IsNetMapEntry (length communities) router) (map (λ (entry : MapEntry). whole_entry communities config entry) routes.entries)
      (All-map (λ (entry : MapEntry). whole_entry communities config entry) (IsNetMapEntry (length communities) router) routes.entries
      (AllByRecursion-weaker (IsMapEntry config) (λ (entry : MapEntry). IsNetMapEntry (length communities) router (whole_entry communities config entry)) (λ entry e. IsNetMapEntry-at communities config router entry few has e) routes.entries (recursion_from_All (IsMapEntry config) routes.entries h.entries)));
}

pub IsNetMap-all : (communities : List ℕ) (config : RouterConfig) (router : Router) → length communities ≤ 64 → HasLists communities config router → All (IsMap config) config.maps → All (IsNetMap (length communities) router) (map (λ routes. net_map communities config routes) config.maps)
IsNetMap-all communities config router few has h =
    All-from_recursion (IsNetMap (length communities) router) (map (λ routes. net_map communities config routes) config.maps)
    (All-map (λ routes. net_map communities config routes) (IsNetMap (length communities) router) config.maps
    (AllByRecursion-weaker (IsMap config) (λ routes. IsNetMap (length communities) router (net_map communities config routes)) (λ routes e. IsNetMap-at communities config router routes few has e) config.maps (recursion_from_All (IsMap config) config.maps h)))
