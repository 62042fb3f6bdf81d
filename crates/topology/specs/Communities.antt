-- The communities of a bundle, and sets of them by their numbers.
use Rattle.std.specs.Prelude.{ℕ, ◌≡◌, ◌↔◌, ◌++◌, ◌^◌, nat_eq, nat_lt, bit_or, true, List, [], ◌∷◌, Contains, Option, Some, None, fold}
use Rattle.std.specs.List.{flat_map}
use Rattle.net_types.specs.declared.config.RouterConfig.{RouterConfig}
use Rattle.net_types.specs.declared.config.CommunityList.{CommunityList}
use Rattle.net_types.specs.declared.config.CommunityEntry.{CommunityEntry}
use Rattle.net_types.specs.declared.config.RouteMap.{RouteMap}
use Rattle.net_types.specs.declared.config.MapEntry.{MapEntry}
use Rattle.net_types.specs.declared.config.SetCommunity.{SetCommunity}
use Rattle.net_types.specs.declared.config.SetCommunity.TheVariants.{Keep, Replace, Add, Clear}
use Rattle.net_types.specs.NetFacts.{no_export, no_advertise}
use Rattle.net_types.specs.Numbering.{community_among}
use Rattle.net_types.specs.Sets.{has}
use Rattle.topology.specs.Ascending.{ascending}

-- the communities that a `set community` line names
abbrev pub set_values : SetCommunity → List ℕ
set_values Keep = []
set_values (Replace values) = values
set_values (Add values) = values
set_values Clear = []

-- the communities that a list's entries name
abbrev pub list_values : CommunityList → List ℕ
list_values communities = flat_map (λ (entry : CommunityEntry). entry.values) communities.entries

-- the communities that the `set community` lines of a map name
abbrev pub map_values : RouteMap → List ℕ
map_values routes = flat_map (λ (entry : MapEntry). set_values entry.sets.community) routes.entries

-- the communities that a configuration names, in use or not
abbrev pub config_values : RouterConfig → List ℕ
config_values config = flat_map (λ communities. list_values communities) config.community_lists ++
    flat_map (λ routes. map_values routes) config.maps

-- the communities that the configurations name
abbrev pub named_values : List RouterConfig → List ℕ
named_values configs = flat_map (λ config. config_values config) configs

-- the numbers in ascending order, each once
abbrev pub ascending_numbers : List ℕ → List ℕ
ascending_numbers numbers = ascending nat_eq nat_lt numbers

-- the communities of a bundle: NO_EXPORT and NO_ADVERTISE of RFC 1997, and all that its configurations
-- name; a community's number is its place
abbrev pub communities : List RouterConfig → List ℕ
communities configs = ascending_numbers (no_export ∷ no_advertise ∷ named_values configs)

-- the set with this number, if there is one
abbrev pub with_number : ℕ → Option ℕ → ℕ
with_number set None = set
with_number set (Some n) = bit_or set (2 ^ n)

-- the set with the number of one more community
unfoldable pub with_community : List ℕ → ℕ → ℕ → ℕ
with_community all set value = with_number set (community_among all value)

-- the set of the numbers of these communities
abbrev pub set_of : List ℕ → List ℕ → ℕ
set_of all values = fold (λ set value. with_community all set value) 0 values

-- the numbers of these communities: n is in the set exactly where it is the number of one of them
abbrev pub IsSetOf : List ℕ → List ℕ → ℕ → Type 0
IsSetOf all values set = (n : ℕ) → (has set n ≡ true) ↔ ((value : ℕ) × Contains values value × (community_among all value ≡ Some n))
