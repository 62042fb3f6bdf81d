-- What the policies of a router make of a route: prefix lists, community lists, and the entries of route maps.
-- Lists and maps stand in ascending sequence, and the first entry that matches decides. This is the project's
-- profile of the configuration language of FRR. Communities are after RFC 1997.
use Rattle.std.specs.Prelude.{ℕ, ◌++◌, ◌&&◌, nat_le, Bool, true, false, List, [], ◌∷◌, Option, Some, None, replicate, slice_get, unwrap_or, option_and_then, bit_and, bit_or, if◌then◌else◌}
use Rattle.std.specs.Int.{bit_not, w64}
use Rattle.std.specs.Option.{option_map_or}
use Rattle.net_types.specs.declared.config.PrefixEntry.{PrefixEntry}
use Rattle.net_types.specs.declared.network.NetCommunityEntry.{NetCommunityEntry}
use Rattle.net_types.specs.declared.network.NetMapEntry.{NetMapEntry}
use Rattle.net_types.specs.declared.network.NetSetCommunity.{NetSetCommunity}
use Rattle.net_types.specs.declared.network.NetSetCommunity.TheVariants.{Keep, Replace, Add, Clear}
use Rattle.net_types.specs.declared.network.NetSets.{NetSets}
use Rattle.net_types.specs.declared.network.Policy.{Policy}
use Rattle.net_types.specs.declared.network.Policy.TheVariants.{Closed, Open, Map}
use Rattle.net_types.specs.declared.network.Router.{Router}
use Rattle.net_types.specs.declared.routes.Route.{Route}
use Rattle.net_types.specs.NetValue.{NetValue}
use Rattle.net_types.specs.PrefixValue.{PrefixValue}
use Rattle.net_types.specs.Prefixes.{covers}
use Rattle.net_types.specs.Sets.{has, is_part}

-- an entry of a prefix list matches: the prefix lies in the entry's, and its length is one of the entry's
abbrev pub prefix_entry_matches : PrefixValue → PrefixEntry → Bool
prefix_entry_matches prefix entry = covers entry.prefix prefix && nat_le entry.least prefix.len && nat_le prefix.len entry.most

-- a prefix list permits the prefix: the first entry that matches decides, and the end denies
unfoldable pub prefix_list_permits : PrefixValue → List PrefixEntry → Bool
prefix_list_permits prefix [] = false
prefix_list_permits prefix (entry ∷ later) = if prefix_entry_matches prefix entry then entry.permit else prefix_list_permits prefix later

-- a community list permits a route with these communities: the first entry all of whose communities the route
-- has decides, and the end denies
unfoldable pub community_list_permits : ℕ → List NetCommunityEntry → Bool
community_list_permits held [] = false
community_list_permits held (entry ∷ later) = if is_part entry.values held then entry.permit else community_list_permits held later

-- the communities that a list deletes: those for which the first entry that names them is a permit
unfoldable pub deleted_by : List NetCommunityEntry → ℕ
deleted_by [] = 0
deleted_by (entry ∷ later) =
    if entry.permit then bit_or entry.values (deleted_by later)
    else bit_and (deleted_by later) (bit_not w64 entry.values)

-- the same asked of one community; one that no entry names is not deleted
unfoldable pub is_deleted : ℕ → List NetCommunityEntry → Bool
is_deleted community [] = false
is_deleted community (entry ∷ later) = if has entry.values community then entry.permit else is_deleted community later

-- the entries of the router's lists and maps at a position
abbrev pub prefix_entries : Router → ℕ → List PrefixEntry
prefix_entries router position = option_map_or (λ found. found.entries) (slice_get router.prefix_lists position) []

abbrev pub community_entries : Router → ℕ → List NetCommunityEntry
community_entries router position = option_map_or (λ found. found.entries) (slice_get router.community_lists position) []

abbrev pub map_entries : Router → ℕ → List NetMapEntry
map_entries router position = option_map_or (λ found. found.entries) (slice_get router.maps position) []

-- the match lines of an entry: one that is not there matches, one that is there asks its list
abbrev pub prefixes_match : Router → Option ℕ → PrefixValue → Bool
prefixes_match router None prefix = true
prefixes_match router (Some position) prefix = prefix_list_permits prefix (prefix_entries router position)

abbrev pub communities_match : Router → Option ℕ → ℕ → Bool
communities_match router None held = true
communities_match router (Some position) held = community_list_permits held (community_entries router position)

-- an entry of a map matches where all its match lines do
abbrev pub entry_matches : Router → PrefixValue → NetMapEntry → ℕ → Bool
entry_matches router prefix entry held = prefixes_match router entry.prefixes prefix && communities_match router entry.communities held

-- the communities that are left where a list's are deleted
abbrev pub without_deleted : Router → Option ℕ → ℕ → ℕ
without_deleted router None held = held
without_deleted router (Some position) held = bit_and held (bit_not w64 (deleted_by (community_entries router position)))

-- the communities after `set community`
abbrev pub with_set : NetSetCommunity → ℕ → ℕ
with_set Keep held = held
with_set (Replace values) held = values
with_set (Add values) held = bit_or held values
with_set Clear held = 0

-- a route of router u under the sets of an entry: what is set replaces what was; communities are deleted before
-- others are set; and u is put in front of the path so many times
unfoldable pub under_sets : Router → ℕ → NetSets → Route → Route
under_sets router u sets route = record {
  weight = unwrap_or sets.weight route.weight;
  preference = unwrap_or sets.preference route.preference;
  path = replicate sets.prepend u ++ route.path;
  origin = unwrap_or sets.origin route.origin;
  med = unwrap_or sets.med route.med;
  communities = with_set sets.community (without_deleted router sets.delete route.communities);
  source = route.source;
}

-- what an entry that matches gives: a deny nothing, a permit the route under its sets
abbrev pub entry_gives : Router → ℕ → NetMapEntry → Route → Option Route
entry_gives router u entry route = if entry.permit then Some (under_sets router u entry.sets route) else None

-- what the entries of a map give: the first that matches decides, and the end gives nothing
unfoldable pub entries_give : Router → ℕ → PrefixValue → List NetMapEntry → Route → Option Route
entries_give router u prefix [] route = None
entries_give router u prefix (entry ∷ later) route =
    if entry_matches router prefix entry route.communities then entry_gives router u entry route
    else entries_give router u prefix later route

-- what a policy of router u gives of a route for the prefix: a closed one nothing, an open one the route as it
-- is, and a map what its entries give
unfoldable pub map_gives : NetValue → ℕ → Policy → PrefixValue → Route → Option Route
map_gives net u Closed prefix route = None
map_gives net u Open prefix route = Some route
map_gives net u (Map position) prefix route =
    option_and_then (λ router. entries_give router u prefix (map_entries router position) route) (slice_get net.routers u)
