-- What is broken of a property with these links failed, worked out of the result of its prefix. That it is what the result
-- implies, or breaks, is a law. All of this is the project's own.
use Rattle.std.specs.Prelude.{ℕ, ◌^◌, ◌==◌, ◌&&◌, not, Bool, bit_or, if◌then◌else◌, List as Seq, Option, Some, None, option_map}
use Rattle.std.specs.List.{find, range_with_len}
use Rattle.net_types.specs.NetValue.{NetValue}
use Rattle.net_types.specs.Numbering.{router_number}
use Rattle.net_types.specs.Sets.{has}
use Rattle.net_types.specs.Turns.{set_of, turns}
use Rattle.property_book.specs.declared.property.Kind.{Kind}
use Rattle.property_book.specs.declared.property.Kind.TheVariants.{Reach, Isolated, Waypoint}
use Rattle.property_book.specs.declared.property.Property.{Property}
use Rattle.property_book.specs.declared.verdict.Broken.{Broken}
use Rattle.property_book.specs.declared.verdict.Broken.TheVariants.{NoSureRoute, IsOwner, MayLearn, HasOspf, Bypass}
use Rattle.refine_rounds.specs.Results.{CaseValue}
use Rattle.implication.specs.View.{View, some_below, view_of}
use Rattle.implication.specs.Implied.{reach_leads, waypoint_leads}
use Rattle.implication.specs.OnTheWay.{has_sure_route, stays}

-- ---- sets of routers

-- the set of all numbers below 64
abbrev pub full : ℕ
full = 18446744073709551615

-- the set with the routers that its members lead to
abbrev pub with_next : (ℕ → ℕ → Bool) → ℕ → ℕ → ℕ
with_next leads count set = bit_or set (set_of (λ v. some_below count (λ u. has set u && leads u v)) count)

-- what the start leads to in some steps: from it alone on, so many steps
unfoldable pub reached : (ℕ → ℕ → Bool) → ℕ → ℕ → ℕ
reached leads count start = turns (with_next leads count) (2 ^ 64) (2 ^ start)

-- the members that may stay in a set of solid routers
abbrev pub kept : View → ℕ → ℕ
kept view set = set_of (λ u. has set u && stays view set u) view.count

-- the solid routers: all but those that cannot stay, those that then cannot stay, and so on
unfoldable pub solid : View → ℕ
solid view = turns (kept view) (2 ^ 64) full

-- the least member of a set
unfoldable pub least : ℕ → Option ℕ
least set = find (λ x. has set x) (range_with_len 0 64)

-- the routers that traffic of the start may come to, and that have no sure route
abbrev pub lacking : View → ℕ → ℕ
lacking view start = set_of (λ u. has (reached (reach_leads view) view.count start) u && not (has_sure_route view (solid view) u)) view.count

-- the owners, other than the waypoint, where traffic of the start may end that does not visit the waypoint
abbrev pub bypassing : View → ℕ → ℕ → ℕ
bypassing view via start = set_of (λ u. has (reached (waypoint_leads view via) view.count start) u && (view.owner u && not (u == via))) view.count

-- ---- the answer

-- of an isolated router the first cause that stands
abbrev pub isolation_at : View → ℕ → Option Broken
isolation_at view start =
    if view.owner start then Some IsOwner else
    (if view.may_learn start then Some MayLearn else
    (if view.has_distance start then Some HasOspf else None))

-- of a waypoint with this number the least router; nothing where there is no such router
abbrev pub waypoint_at : View → ℕ → Option ℕ → Option Broken
waypoint_at view start None = None
waypoint_at view start (Some via) = option_map Bypass (least (bypassing view via start))

-- what is broken of a kind of property at the start
abbrev pub kind_at : NetValue → View → ℕ → Kind → Option Broken
kind_at net view start Reach = option_map NoSureRoute (least (lacking view start))
kind_at net view start Isolated = isolation_at view start
kind_at net view start (Waypoint host) = waypoint_at view start (router_number net host)

-- nothing is asked where the property's router is not there
abbrev pub asked_at : NetValue → View → Kind → Option ℕ → Option Broken
asked_at net view kind None = None
asked_at net view kind (Some start) = kind_at net view start kind

-- what is broken of the property with these links failed, where this is known of the case
unfoldable pub answer_of : NetValue → Property → Seq ℕ → CaseValue → Option Broken
answer_of net property failed known = asked_at net (view_of net property.prefix failed known) property.kind (router_number net property.router)
