use Rattle.std.proofs.Common.{◌≡◌, ◌∙◌}
use Rattle.std.specs.Prelude.{is_some}
use Rattle.std.specs.BTreeMap.{get_by_text}
use Rattle.net_types.specs.Order.{same_text}
use Rattle.net_types.specs.declared.config.RouteMap.{RouteMap}
use Rattle.frr_reader.proofs.PlaceLemmas.{name_found}
use Rattle.frr_reader.proofs.needs.has_map.Goals as goal

pub returns : goal.returns
returns c =
    let found : c.contains_key.result ≡ is_some (get_by_text c.args.names.now.maps c.args.name.now) = rw c.as_str.ensures at c.contains_key.ensures in
    found ∙ name_found (λ (x : RouteMap). same_text x.name c.args.name.now) c.args.config.now.maps (get_by_text c.args.names.now.maps c.args.name.now) (c.requires.maps c.args.name.now)
