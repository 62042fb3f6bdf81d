-- Lists and maps of a router, with positions in place of names and numbers in place of communities.
use Rattle.std.specs.Prelude.{ℕ, List, length, map, option_map}
use Rattle.std.specs.List.{position_or_len}
use Rattle.net_types.specs.declared.config.RouterConfig.{RouterConfig}
use Rattle.net_types.specs.declared.config.PrefixList.{PrefixList}
use Rattle.net_types.specs.declared.config.CommunityList.{CommunityList}
use Rattle.net_types.specs.declared.config.CommunityEntry.{CommunityEntry}
use Rattle.net_types.specs.declared.config.RouteMap.{RouteMap}
use Rattle.net_types.specs.declared.config.MapEntry.{MapEntry}
use Rattle.net_types.specs.declared.config.Sets.{Sets}
use Rattle.net_types.specs.declared.config.SetCommunity.{SetCommunity}
use Rattle.net_types.specs.declared.network.NetCommunityList.{NetCommunityList}
use Rattle.net_types.specs.declared.network.NetCommunityEntry.{NetCommunityEntry}
use Rattle.net_types.specs.declared.network.NetMap.{NetMap}
use Rattle.net_types.specs.declared.network.NetMapEntry.{NetMapEntry}
use Rattle.net_types.specs.declared.network.NetSets.{NetSets}
use Rattle.net_types.specs.declared.network.NetSetCommunity.{NetSetCommunity}
use Rattle.net_types.specs.Order.{same_text}
use Rattle.topology.specs.Communities.{set_of}

-- the position of the prefix list, the community list, the map of this name
abbrev pub prefix_list_place : List PrefixList → List ℕ → ℕ
prefix_list_place lists name = position_or_len (λ (l : PrefixList). same_text l.name name) lists

abbrev pub community_list_place : List CommunityList → List ℕ → ℕ
community_list_place lists name = position_or_len (λ (l : CommunityList). same_text l.name name) lists

abbrev pub map_place : List RouteMap → List ℕ → ℕ
map_place maps name = position_or_len (λ (m : RouteMap). same_text m.name name) maps

abbrev pub net_community_entry : List ℕ → CommunityEntry → NetCommunityEntry
net_community_entry communities entry = record { seq = entry.seq; permit = entry.permit; values = set_of communities entry.values }

abbrev pub net_community_list : List ℕ → CommunityList → NetCommunityList
net_community_list communities l = record { name = l.name; entries = map (λ entry. net_community_entry communities entry) l.entries }

abbrev pub net_set_community : List ℕ → SetCommunity → NetSetCommunity
net_set_community communities SetCommunity.Keep = NetSetCommunity.Keep
net_set_community communities (SetCommunity.Replace values) = NetSetCommunity.Replace (set_of communities values)
net_set_community communities (SetCommunity.Add values) = NetSetCommunity.Add (set_of communities values)
net_set_community communities SetCommunity.Clear = NetSetCommunity.Clear

-- the sets of an entry; `community` is its `set community`, already with numbers; what is prepended is the
-- router's own AS, so that its count says all
abbrev pub net_sets : NetSetCommunity → RouterConfig → Sets → NetSets
net_sets community config sets = record {
  weight = sets.weight;
  preference = sets.preference;
  med = sets.med;
  origin = sets.origin;
  «delete» = option_map (λ name. community_list_place config.community_lists name) sets.delete;
  community = community;
  prepend = length sets.prepend;
}

-- an entry with these sets
abbrev pub net_map_entry : NetSets → RouterConfig → MapEntry → NetMapEntry
net_map_entry sets config entry = record {
  seq = entry.seq;
  permit = entry.permit;
  prefixes = option_map (λ name. prefix_list_place config.prefix_lists name) entry.prefixes;
  communities = option_map (λ name. community_list_place config.community_lists name) entry.communities;
  sets = sets;
}

-- an entry with its sets
abbrev pub whole_entry : List ℕ → RouterConfig → MapEntry → NetMapEntry
whole_entry communities config entry = net_map_entry (net_sets (net_set_community communities entry.sets.community) config entry.sets) config entry

abbrev pub net_map_entries : List ℕ → RouterConfig → List MapEntry → List NetMapEntry
net_map_entries communities config entries = map (λ (entry : MapEntry). whole_entry communities config entry) entries

abbrev pub net_map : List ℕ → RouterConfig → RouteMap → NetMap
net_map communities config routes = record { name = routes.name; entries = net_map_entries communities config routes.entries }
