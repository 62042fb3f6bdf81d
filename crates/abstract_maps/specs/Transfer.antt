-- What an arc makes of a row: on all routes of the row at once what `concrete_algebra/specs/Carrying.antt` says of
-- one (RFC 4271, RFC 1997). The rows are the project's own.
use Rattle.std.specs.Prelude.{ℕ, ◌*◌, ◌&&◌, ◌^◌, Bool, false, not, length, bit_or, min, if◌then◌else◌}
use Rattle.std.specs.Option.{option_map_or}
use Rattle.net_types.specs.declared.arcs.Arc.{Arc}
use Rattle.net_types.specs.declared.network.Link.{Link}
use Rattle.net_types.specs.declared.network.End.{End}
use Rattle.net_types.specs.Arcs.{from_end, to_end, link_of}
use Rattle.net_types.specs.NetFacts.{no_export, no_advertise}
use Rattle.net_types.specs.NetValue.{NetValue}
use Rattle.net_types.specs.PrefixValue.{PrefixValue}
use Rattle.net_types.specs.Sets.{has}
use Rattle.abstract_route.specs.declared.rows.Row.{Row}
use Rattle.abstract_route.specs.declared.rows.Range.{Range}
use Rattle.abstract_route.specs.Rows.{single, carried_row, inhabited, bottom}
use Rattle.concrete_algebra.specs.Carrying.{holds_value, is_kept_home}
use Rattle.abstract_maps.specs.AbstractMap.{abstract_map, sure}
use Rattle.abstract_maps.specs.RowSets.{lengthened, minus}

-- some route of the row may leave its router: NO_EXPORT and NO_ADVERTISE may both be lacked
abbrev pub may_leave : NetValue → Row → Bool
may_leave net row = holds_value net no_export row.lacks && holds_value net no_advertise row.lacks

-- each route of the row may leave: neither of the two may be held
abbrev pub surely_leaves : NetValue → Row → Bool
surely_leaves net row = not (is_kept_home net row.has)

-- the router once more in front of the path; no route where the row has none
unfoldable pub row_sent_by : ℕ → Row → Row
row_sent_by sender row =
    if inhabited row
    then record row { length = lengthened 1 row.length; may = bit_or row.may (2 ^ sender); must = bit_or row.must (2 ^ sender) }
    else bottom

-- what the sender announces: its export policy on the row, with the sender in front. The policy gives no route
-- where the row has none. That a route may leave narrows neither `has` nor `lacks`
unfoldable pub exported : NetValue → PrefixValue → End → Row → Row
exported net prefix from row =
    if may_leave net row then row_sent_by from.router (abstract_map net from.router from.export prefix row) else bottom

-- a set with one number less
abbrev pub less : ℕ → ℕ → ℕ
less set number = minus set (2 ^ number)

-- what the receiver begins with: no route where it is on every path; it takes none whose path it is on, and
-- weight and preference begin anew
unfoldable pub received : ℕ → Row → Row
received receiver row =
    if has row.must receiver then bottom
    else record row { weight = single 0; preference = single 100; may = less row.may receiver }

-- the same, had the receiver been on no path
unfoldable pub received_free : ℕ → Row → Row
received_free receiver row =
    record row { weight = single 0; preference = single 100; may = less row.may receiver; must = less row.must receiver }

-- no held path has more entries than 21 for each router: both ends of the length are cut there
abbrev pub longest : NetValue → ℕ
longest net = 21 * length net.routers

abbrev pub cut : ℕ → Range → Range
cut most range = record { low = min range.low most; high = min range.high most }

unfoldable pub cut_row : ℕ → Row → Row
cut_row most row = if inhabited row then record row { length = cut most row.length } else bottom

-- the receiver's import policy, and the cut
unfoldable pub imported : NetValue → PrefixValue → End → Row → Row
imported net prefix to row = cut_row (longest net) (abstract_map net to.router to.import prefix row)

-- from one end of a session to the other
abbrev pub between : NetValue → PrefixValue → End → End → Row → Row
between net prefix from to row = imported net prefix to (received to.router (exported net prefix from row))

abbrev pub between_free : NetValue → PrefixValue → End → End → Row → Row
between_free net prefix from to row = imported net prefix to (received_free to.router (exported net prefix from row))

abbrev pub passes_between : NetValue → PrefixValue → End → End → Row → Bool
passes_between net prefix from to row =
    inhabited row && surely_leaves net row && sure net from.router from.export prefix row &&
    sure net to.router to.import prefix (received_free to.router (exported net prefix from row))

-- over a link in one direction; no route where it is no session
abbrev pub over_link : NetValue → PrefixValue → Bool → Row → Link → Row
over_link net prefix down row link =
    if link.session then between net prefix (from_end down link) (to_end down link) row else bottom

abbrev pub over_link_free : NetValue → PrefixValue → Bool → Row → Link → Row
over_link_free net prefix down row link =
    if link.session then between_free net prefix (from_end down link) (to_end down link) row else bottom

abbrev pub passes_link : NetValue → PrefixValue → Bool → Row → Link → Bool
passes_link net prefix down row link = link.session && passes_between net prefix (from_end down link) (to_end down link) row

-- what the arc makes of a row; no route where there is no such arc
unfoldable pub transfer : NetValue → PrefixValue → Arc → Row → Row
transfer net prefix arc row = option_map_or (λ link. over_link net prefix arc.down row link) (link_of net arc) bottom

-- the same without the test whether the receiver is on every path
unfoldable pub free : NetValue → PrefixValue → Arc → Row → Row
free net prefix arc row = option_map_or (λ link. over_link_free net prefix arc.down row link) (link_of net arc) bottom

-- the row that the arc adds to its receiver's: the MED of a learned route is carried no further
abbrev pub gives : NetValue → PrefixValue → Arc → Row → Row
gives net prefix arc row = if inhabited (transfer net prefix arc row) then carried_row (transfer net prefix arc row) else bottom

-- some route of the row might come over the arc, were the receiver on no path
abbrev pub opens : NetValue → PrefixValue → Arc → Row → Bool
opens net prefix arc row = inhabited (free net prefix arc row)

-- each route of the row comes over the arc, but for one whose path the receiver is on
unfoldable pub passes : NetValue → PrefixValue → Arc → Row → Bool
passes net prefix arc row = option_map_or (λ link. passes_link net prefix arc.down row link) (link_of net arc) false
