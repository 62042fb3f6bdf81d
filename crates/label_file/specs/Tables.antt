-- The label of a table: the router of the table, and the route that it holds.
use Rattle.std.specs.Prelude.{ℕ, ◌==◌, Bool, List as Seq, [], ◌∷◌, codes, Option, Some, None, option_and_then, if◌then◌else◌}
use Rattle.toml.specs.Data.{Members}
use Rattle.net_types.specs.declared.config.Origin.{Origin}
use Rattle.net_types.specs.declared.routes.Source.{Source}
use Rattle.net_types.specs.declared.routes.Source.TheVariants.{Local, Learned}
use Rattle.net_types.specs.declared.routes.Route.{Route}
use Rattle.net_types.specs.NetValue.{NetValue}
use Rattle.toml_fields.specs.Fields.{has_only}
use Rattle.label_file.specs.declared.contents.Label.{Label}
use Rattle.label_file.specs.Values.{router_at, word_at, path_at, origin_at, communities_at}
use Rattle.label_file.specs.Sources.{source_at}

-- the fields of a label; `link` is one of a learned label alone
abbrev pub local_keys : Seq (Seq ℕ)
local_keys =
    codes "router" ∷ codes "source" ∷ codes "weight" ∷ codes "preference" ∷ codes "path" ∷ codes "origin" ∷ codes "med" ∷
    codes "communities" ∷ []

abbrev pub keys_of : Source → Seq (Seq ℕ)
keys_of Local = local_keys
keys_of (Learned arc) = codes "link" ∷ local_keys

-- the route of the fields, where each is there, of the right kind and in range
abbrev pub route_of : Option Source → Option ℕ → Option ℕ → Option (Seq ℕ) → Option Origin → Option ℕ → Option ℕ → Option Route
route_of (Some source) (Some weight) (Some preference) (Some path) (Some origin) (Some med) (Some communities) =
    Some (record {
      weight = weight;
      preference = preference;
      path = path;
      origin = origin;
      med = med;
      communities = communities;
      source = source;
    })
route_of _ _ _ _ _ _ _ = None

unfoldable pub route_at : NetValue → ℕ → Members → Option Route
route_at net router fields =
    route_of (source_at net router fields) (word_at (codes "weight") fields) (word_at (codes "preference") fields) (path_at net (codes "path") fields)
    (origin_at (codes "origin") fields) (word_at (codes "med") fields) (communities_at net (codes "communities") fields)

-- and the table has no other field
abbrev pub if_known : ℕ → Members → Route → Option Label
if_known router fields route = if has_only (keys_of route.source) fields then Some (record { router = router; route = route }) else None

abbrev pub label_of_fields : NetValue → Members → ℕ → Option Label
label_of_fields net fields router = option_and_then (if_known router fields) (route_at net router fields)

unfoldable pub label_of : NetValue → Members → Option Label
label_of net fields = option_and_then (label_of_fields net fields) (router_at net (codes "router") fields)

-- whether the labels are of one router
abbrev pub is_same_router : Label → Label → Bool
is_same_router a b = a.router == b.router
