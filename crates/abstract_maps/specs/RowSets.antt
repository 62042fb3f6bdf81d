-- What the sets of a route map's entry make of a row: on each route of the row what
-- `concrete_algebra/specs/Maps.antt` says of one. The rows are the project's own.
use Rattle.std.specs.Prelude.{ℕ, ◌+◌, ◌==◌, ◌^◌, Option, Some, None, bit_and, bit_or, if◌then◌else◌}
use Rattle.std.specs.Int.{bit_not, w64}
use Rattle.net_types.specs.declared.config.Origin.{Origin}
use Rattle.net_types.specs.declared.network.NetSets.{NetSets}
use Rattle.net_types.specs.declared.network.NetSetCommunity.{NetSetCommunity}
use Rattle.net_types.specs.declared.network.NetSetCommunity.TheVariants.{Keep, Replace, Add, Clear}
use Rattle.net_types.specs.declared.network.Router.{Router}
use Rattle.net_types.specs.Better.{origin_rank}
use Rattle.abstract_route.specs.declared.rows.Row.{Row}
use Rattle.abstract_route.specs.declared.rows.Range.{Range}
use Rattle.abstract_route.specs.Rows.{single}
use Rattle.concrete_algebra.specs.Maps.{community_entries, deleted_by, with_set, without_deleted}

-- a replaced number is a range of one
abbrev pub replaced : Option ℕ → Range → Range
replaced None range = range
replaced (Some n) range = single n

abbrev pub replaced_origin : Option Origin → Range → Range
replaced_origin None range = range
replaced_origin (Some origin) range = single (origin_rank origin)

-- a set without the numbers of another
abbrev pub minus : ℕ → ℕ → ℕ
minus set others = bit_and set (bit_not w64 others)

-- the communities that may be lacked where a list's are deleted
abbrev pub with_deleted : Router → Option ℕ → ℕ → ℕ
with_deleted router None lacked = lacked
with_deleted router (Some position) lacked = bit_or lacked (deleted_by (community_entries router position))

-- those that may be lacked after `set community`
abbrev pub lacked_after : NetSetCommunity → ℕ → ℕ
lacked_after Keep lacked = lacked
lacked_after (Replace values) lacked = bit_not w64 values
lacked_after (Add values) lacked = minus lacked values
lacked_after Clear lacked = 18446744073709551615

-- so many more routers in front of a path
abbrev pub lengthened : ℕ → Range → Range
lengthened count range = record { low = range.low + count; high = range.high + count }

-- the routers of a path, where one is put in front so many times
abbrev pub with_router : ℕ → ℕ → ℕ → ℕ
with_router count u set = if count == 0 then set else bit_or set (2 ^ u)

-- a row of router u under the sets of an entry: what is set replaces what was; deleted communities leave `has` and
-- enter `lacks`, and then `set community` replaces, adds or clears; u is put in front of the path so many times
unfoldable pub row_under_sets : Router → ℕ → NetSets → Row → Row
row_under_sets router u sets row = record {
  weight = replaced sets.weight row.weight;
  preference = replaced sets.preference row.preference;
  length = lengthened sets.prepend row.length;
  origin = replaced_origin sets.origin row.origin;
  med = replaced sets.med row.med;
  has = with_set sets.community (without_deleted router sets.delete row.has);
  lacks = lacked_after sets.community (with_deleted router sets.delete row.lacks);
  may = with_router sets.prepend u row.may;
  must = with_router sets.prepend u row.must;
}
