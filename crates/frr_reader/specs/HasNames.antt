-- The places of the names of a configuration's lists and maps.
use Rattle.net_types.specs.declared.config.RouterConfig.{RouterConfig}
use Rattle.net_types.specs.declared.config.PrefixList.{PrefixList}
use Rattle.net_types.specs.declared.config.CommunityList.{CommunityList}
use Rattle.net_types.specs.declared.config.RouteMap.{RouteMap}
use Rattle.frr_reader.specs.declared.needs.Names.{Names}
use Rattle.frr_reader.specs.Places.{HasPlaces}

pub record HasNames (config : RouterConfig) (names : Names) : Type 0 where
  pub prefix_lists : HasPlaces (λ (l : PrefixList). l.name) config.prefix_lists names.prefix_lists
  pub community_lists : HasPlaces (λ (l : CommunityList). l.name) config.community_lists names.community_lists
  pub maps : HasPlaces (λ (m : RouteMap). m.name) config.maps names.maps
