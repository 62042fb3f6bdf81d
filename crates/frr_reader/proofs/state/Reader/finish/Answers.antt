use Rattle.std.proofs.Common.{List, subst, sym}
use Rattle.net_types.specs.declared.config.PrefixList.{PrefixList}
use Rattle.net_types.specs.declared.config.CommunityList.{CommunityList}
use Rattle.net_types.specs.declared.config.RouteMap.{RouteMap}
use Rattle.frr_reader.specs.Places.{HasPlaces}
use Rattle.frr_reader.proofs.state.Reader.finish.Goals as goal

pub judge-requires : goal.judge-requires
judge-requires c = record {
  prefix_lists = subst (λ (xs : List PrefixList). HasPlaces (λ (l : PrefixList). l.name) xs c.into_parts-prefix_lists.result.1) (sym c.into_parts-prefix_lists.ensures.items) c.into_parts-prefix_lists.ensures.places;
  community_lists = subst (λ (xs : List CommunityList). HasPlaces (λ (l : CommunityList). l.name) xs c.into_parts-community_lists.result.1) (sym c.into_parts-community_lists.ensures.items) c.into_parts-community_lists.ensures.places;
  maps = subst (λ (xs : List RouteMap). HasPlaces (λ (m : RouteMap). m.name) xs c.into_parts-maps.result.1) (sym c.into_parts-maps.ensures.items) c.into_parts-maps.ensures.places;
}
