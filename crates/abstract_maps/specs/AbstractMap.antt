-- What a policy makes of a row, and when it surely lets every route of the row through. The project's own.
use Rattle.std.specs.Prelude.{ℕ, ◌&&◌, Bool, true, false, List, [], ◌∷◌, if◌then◌else◌, slice_get, ◌<◌, ◌^◌}
use Rattle.std.specs.Option.{option_map_or}
use Rattle.net_types.specs.declared.network.Router.{Router}
use Rattle.net_types.specs.declared.network.NetMapEntry.{NetMapEntry}
use Rattle.net_types.specs.declared.network.Policy.{Policy}
use Rattle.net_types.specs.declared.network.Policy.TheVariants.{Closed, Open, Map}
use Rattle.net_types.specs.NetValue.{NetValue}
use Rattle.net_types.specs.PrefixValue.{PrefixValue}
use Rattle.abstract_route.specs.declared.rows.Row.{Row}
use Rattle.abstract_route.specs.Rows.{IsInhabited, joined, inhabited, bottom}
use Rattle.concrete_algebra.specs.Maps.{map_entries}
use Rattle.abstract_maps.specs.declared.statuses.Status.{Status}
use Rattle.abstract_maps.specs.declared.statuses.Status.TheVariants.{No, Maybe, Yes}
use Rattle.abstract_maps.specs.RowSets.{row_under_sets}
use Rattle.abstract_maps.specs.Statuses.{entry_status}

-- what an entry gives where it decides: a deny nothing, a permit the row under its sets
abbrev pub entry_row : Router → ℕ → NetMapEntry → Row → Row
entry_row router u entry row = if entry.permit then row_under_sets router u entry.sets row else bottom

-- an entry and what comes behind it: an entry that is No is passed over, one that is Yes decides, and one that
-- is Maybe may decide
abbrev pub by_entry : Status → Row → Row → Row
by_entry No here later = later
by_entry Yes here later = here
by_entry Maybe here later = joined here later

-- the join, over the Maybe permits before the first Yes entry and that entry if it permits, of the row under the
-- entry's sets
unfoldable pub map_row : Router → ℕ → PrefixValue → List NetMapEntry → Row → Row
map_row router u prefix [] row = bottom
map_row router u prefix (entry ∷ later) row =
    by_entry (entry_status router prefix entry row) (entry_row router u entry row) (map_row router u prefix later row)

abbrev pub policy_row : Router → ℕ → Policy → PrefixValue → Row → Row
policy_row router u Closed prefix row = bottom
policy_row router u Open prefix row = row
policy_row router u (Map position) prefix row = map_row router u prefix (map_entries router position) row

-- what a policy of router u makes of a row: no route at a closed side and where the row has none, the row itself
-- at an open side, and what the map's entries make of it
unfoldable pub abstract_map : NetValue → ℕ → Policy → PrefixValue → Row → Row
abstract_map net u policy prefix row =
    if inhabited row
    then option_map_or (λ (router : Router). policy_row router u policy prefix row) (slice_get net.routers u) bottom
    else bottom

-- an entry, and whether what comes behind it surely permits: one that is Yes decides, and one that is Maybe has to
-- permit too
abbrev pub sure_by : Status → Bool → Bool → Bool
sure_by No permit later = later
sure_by Yes permit later = permit
sure_by Maybe permit later = permit && later

-- there is a Yes entry, the first of them permits, and so does each Maybe entry before it
unfoldable pub sure_entries : Router → PrefixValue → List NetMapEntry → Row → Bool
sure_entries router prefix [] row = false
sure_entries router prefix (entry ∷ later) row =
    sure_by (entry_status router prefix entry row) entry.permit (sure_entries router prefix later row)

abbrev pub sure_policy : Router → Policy → PrefixValue → Row → Bool
sure_policy router Closed prefix row = false
sure_policy router Open prefix row = true
sure_policy router (Map position) prefix row = sure_entries router prefix (map_entries router position) row

-- a policy of router u surely lets each route of an inhabited row through
unfoldable pub sure : NetValue → ℕ → Policy → PrefixValue → Row → Bool
sure net u policy prefix row =
    option_map_or (λ (router : Router). sure_policy router policy prefix row) (slice_get net.routers u) false

-- what each call asks of a row: if it is inhabited, both ends of its length are below 2 to the power of 32
abbrev pub IsShort : Row → Type 0
IsShort row = IsInhabited row → (row.length.low < 2 ^ 32) × (row.length.high < 2 ^ 32)
