-- How the matches of a route map stand to all routes of a row at once. All of this is the project's own; what a
-- match asks of one route stands in `concrete_algebra/specs/Maps.antt`.
use Rattle.std.specs.Prelude.{ℕ, ◌==◌, ◌||◌, Bool, false, not, List, [], ◌∷◌, Option, Some, None, bit_and, if◌then◌else◌}
use Rattle.net_types.specs.declared.network.Router.{Router}
use Rattle.net_types.specs.declared.network.NetCommunityEntry.{NetCommunityEntry}
use Rattle.net_types.specs.declared.network.NetMapEntry.{NetMapEntry}
use Rattle.net_types.specs.PrefixValue.{PrefixValue}
use Rattle.net_types.specs.Sets.{is_part}
use Rattle.abstract_route.specs.declared.rows.Row.{Row}
use Rattle.concrete_algebra.specs.Maps.{community_entries, prefixes_match}
use Rattle.abstract_maps.specs.declared.statuses.Status.{Status}
use Rattle.abstract_maps.specs.declared.statuses.Status.TheVariants.{No, Maybe, Yes}

-- an entry of a community list: No where one of its values is not in `has`, Yes where none is in `lacks`
abbrev pub values_status : ℕ → Row → Status
values_status values row = if not (is_part values row.has) then No else (if bit_and values row.lacks == 0 then Yes else Maybe)

-- which actions may decide a list: whether a permit may, and whether a deny may
pub record Outcomes : Type 0 where
  pub permit : Bool
  pub deny : Bool

-- one action decides
abbrev pub only : Bool → Outcomes
only action = record { permit = action; deny = not action }

-- an entry and what comes behind it: an entry that is No is passed over, one that is Yes decides, and one that
-- is Maybe may decide
abbrev pub by_status : Status → Bool → Outcomes → Outcomes
by_status No action later = later
by_status Yes action later = only action
by_status Maybe action later = record { permit = action || later.permit; deny = not action || later.deny }

-- the actions of the Maybe entries before the first Yes entry, with that entry's action, or with a deny where
-- there is no Yes entry
unfoldable pub outcomes : List NetCommunityEntry → Row → Outcomes
outcomes [] row = only false
outcomes (entry ∷ later) row = by_status (values_status entry.values row) entry.permit (outcomes later row)

-- Yes where all outcomes permit, No where all deny
abbrev pub outcome_status : Outcomes → Status
outcome_status o = if not o.deny then Yes else (if not o.permit then No else Maybe)

-- the match of a community list, where there is one
abbrev pub community_status : Router → Option ℕ → Row → Status
community_status router None row = Yes
community_status router (Some position) row = outcome_status (outcomes (community_entries router position) row)

-- a match that is the same for all routes
abbrev pub certain_status : Bool → Status
certain_status matches = if matches then Yes else No

-- two matches: No where one is No, Yes where both are Yes
abbrev pub both : Status → Status → Status
both No other = No
both Yes other = other
both Maybe No = No
both Maybe Maybe = Maybe
both Maybe Yes = Maybe

-- an entry of a route map: all of its matches. That of a prefix list is the same for all routes, as they are all
-- of this prefix
abbrev pub entry_status : Router → PrefixValue → NetMapEntry → Row → Status
entry_status router prefix entry row =
    both (certain_status (prefixes_match router entry.prefixes prefix)) (community_status router entry.communities row)
