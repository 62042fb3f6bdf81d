-- What is true of the abstract maps and transfers of every network.
use Rattle.std.specs.Prelude.{ℕ, ◌≡◌, ◌<◌, ◌≤◌, ◌+◌, ◌*◌, ◌^◌, ◌⊎◌, true, false, List, length, min, Some, Option, IfSome}
use Rattle.net_types.specs.Routes.{is_on}
use Rattle.net_types.specs.declared.arcs.Arc.{Arc}
use Rattle.net_types.specs.declared.network.Link.{Link}
use Rattle.net_types.specs.declared.network.Policy.{Policy}
use Rattle.net_types.specs.declared.network.Policy.TheVariants.{Open}
use Rattle.net_types.specs.declared.routes.Route.{Route}
use Rattle.net_types.specs.Arcs.{from_end, is_session, link_of, receiver_of, to_end}
use Rattle.net_types.specs.NetFacts.{IsNet}
use Rattle.net_types.specs.NetValue.{NetValue}
use Rattle.net_types.specs.PrefixValue.{PrefixValue}
use Rattle.abstract_route.specs.declared.rows.Row.{Row}
use Rattle.abstract_route.specs.Fits.{Fits, IsExact, IsIn}
use Rattle.abstract_route.specs.Rows.{IsBelow, IsInhabited, IsRow, bottom}
use Rattle.concrete_algebra.specs.Carrying.{carry_gives}
use Rattle.concrete_algebra.specs.LocalRoutes.{local_of}
use Rattle.concrete_algebra.specs.Maps.{map_gives}
use Rattle.concrete_algebra.specs.Problem.{problem_of}
use Rattle.concrete_algebra.specs.Stability.{Arrives, IsStable}
use Rattle.abstract_maps.specs.AbstractMap.{IsShort, abstract_map, sure}
use Rattle.abstract_maps.specs.LocalRow.{local_row}
use Rattle.abstract_maps.specs.Transfer.{free, gives, less, longest, opens, passes, transfer}

-- what a policy gives of a route that fits a row fits what it makes of the row
abbrev pub MapIsSound : Type 0
MapIsSound =
    (net : NetValue) (u : ℕ) (policy : Policy) (prefix : PrefixValue) (row : Row) (route given : Route) → IsNet net →
    u < length net.routers →
    Fits route row → map_gives net u policy prefix route ≡ Some given → Fits given (abstract_map net u policy prefix row)

-- a policy leaves no route of a row, or an inhabited row
abbrev pub MapIsNoneOrInhabited : Type 0
MapIsNoneOrInhabited =
    (net : NetValue) (u : ℕ) (policy : Policy) (prefix : PrefixValue) (row : Row) → IsNet net → u < length net.routers →
    (abstract_map net u policy prefix row ≡ bottom) ⊎ IsInhabited (abstract_map net u policy prefix row)

-- what a policy makes of a row grows with an inhabited row
abbrev pub MapGrows : Type 0
MapGrows =
    (net : NetValue) (u : ℕ) (policy : Policy) (prefix : PrefixValue) (a b : Row) → IsNet net → u < length net.routers →
    IsInhabited a → IsBelow a b → IsBelow (abstract_map net u policy prefix a) (abstract_map net u policy prefix b)

-- a policy puts at most 10 routers in front of a row's paths
abbrev pub MapLengthens : Type 0
MapLengthens =
    (net : NetValue) (u : ℕ) (policy : Policy) (prefix : PrefixValue) (row : Row) → IsNet net → u < length net.routers →
    IsInhabited row → (abstract_map net u policy prefix row).length.high ≤ row.length.high + 10

-- a policy that is sure of a row gives something of each route that fits it
abbrev pub SureGives : Type 0
SureGives =
    (net : NetValue) (u : ℕ) (policy : Policy) (prefix : PrefixValue) (row : Row) (route : Route) → IsNet net → u < length net.routers →
    Fits route row → sure net u policy prefix row ≡ true → (given : Route) × (map_gives net u policy prefix route ≡ Some given)

-- a route of a row that the arc carries fits the transfer, if its path has at most 21 entries for each router
abbrev pub TransferIsSound : Type 0
TransferIsSound =
    (net : NetValue) (prefix : PrefixValue) (arc : Arc) (row : Row) (sent route : Route) → IsNet net → IsRow row →
    is_session net arc ≡ true → IsIn sent row → carry_gives net prefix arc sent ≡ Some route → length route.path ≤ 21 * length net.routers →
    Fits route (transfer net prefix arc row)

-- it is in the row that the arc adds to its receiver's
abbrev pub GivesIsSound : Type 0
GivesIsSound =
    (net : NetValue) (prefix : PrefixValue) (arc : Arc) (row : Row) (sent route : Route) → IsNet net → IsRow row →
    is_session net arc ≡ true → IsIn sent row → carry_gives net prefix arc sent ≡ Some route → length route.path ≤ 21 * length net.routers →
    IsIn route (gives net prefix arc row)

-- in a stable labelling no path is too long: what comes over an arc, of a sender's label that is in a row, fits the
-- transfer, and is in the row that the arc adds to its receiver's
abbrev pub ArrivalFits : Type 0
ArrivalFits =
    (net : NetValue) (prefix : PrefixValue) (failed : List ℕ) (distances : List (Option ℕ)) (labels : List (Option Route)) (u : ℕ) (arc : Arc) (row : Row) (sent route : Route) →
    IsNet net → IsRow row → IsStable (problem_of net prefix failed distances) labels →
    Arrives (problem_of net prefix failed distances) labels u arc sent route → IsIn sent row → Fits route (transfer net prefix arc row)

abbrev pub ArrivalIsIn : Type 0
ArrivalIsIn =
    (net : NetValue) (prefix : PrefixValue) (failed : List ℕ) (distances : List (Option ℕ)) (labels : List (Option Route)) (u : ℕ) (arc : Arc) (row : Row) (sent route : Route) →
    IsNet net → IsRow row → IsStable (problem_of net prefix failed distances) labels →
    Arrives (problem_of net prefix failed distances) labels u arc sent route → IsIn sent row → IsIn route (gives net prefix arc row)

-- the router that the arc goes to is on the route's path
abbrev pub Meets : NetValue → Arc → Route → Type 0
Meets net arc route = (u : ℕ) × (receiver_of net arc ≡ Some u) × (is_on u route.path ≡ true)

-- where an arc passes a row, it carries each route of the row, but for one whose path the receiver is on
abbrev pub PassingIsSure : Type 0
PassingIsSure =
    (net : NetValue) (prefix : PrefixValue) (arc : Arc) (row : Row) (sent : Route) → IsNet net → IsRow row →
    passes net prefix arc row ≡ true → IsIn sent row →
    ((route : Route) × (carry_gives net prefix arc sent ≡ Some route)) ⊎ Meets net arc sent

-- the transfer, and what an arc gives, grow with the row
abbrev pub TransferGrows : Type 0
TransferGrows =
    (net : NetValue) (prefix : PrefixValue) (arc : Arc) (a b : Row) → IsNet net → IsRow b → IsBelow a b →
    IsBelow (transfer net prefix arc a) (transfer net prefix arc b)

abbrev pub GivesGrows : Type 0
GivesGrows =
    (net : NetValue) (prefix : PrefixValue) (arc : Arc) (a b : Row) → IsNet net → IsRow b → IsBelow a b →
    IsBelow (gives net prefix arc a) (gives net prefix arc b)

-- what is open for a row is open for each row above
abbrev pub OpenGrows : Type 0
OpenGrows =
    (net : NetValue) (prefix : PrefixValue) (arc : Arc) (a b : Row) → IsNet net → IsBelow a b →
    opens net prefix arc a ≡ true → opens net prefix arc b ≡ true

-- an arc that passes a row is open for it
abbrev pub PassesIsOpen : Type 0
PassesIsOpen =
    (net : NetValue) (prefix : PrefixValue) (arc : Arc) (row : Row) → IsNet net →
    passes net prefix arc row ≡ true → opens net prefix arc row ≡ true

-- an arc makes no route of a row, or an inhabited row; and so for what it would make were the receiver on no path,
-- and for what it adds to its receiver's row
abbrev pub TransferIsNoneOrInhabited : Type 0
TransferIsNoneOrInhabited =
    (net : NetValue) (prefix : PrefixValue) (arc : Arc) (row : Row) → IsNet net →
    (transfer net prefix arc row ≡ bottom) ⊎ IsInhabited (transfer net prefix arc row)

abbrev pub FreeIsNoneOrInhabited : Type 0
FreeIsNoneOrInhabited =
    (net : NetValue) (prefix : PrefixValue) (arc : Arc) (row : Row) → IsNet net →
    (free net prefix arc row ≡ bottom) ⊎ IsInhabited (free net prefix arc row)

abbrev pub GivesIsNoneOrInhabited : Type 0
GivesIsNoneOrInhabited =
    (net : NetValue) (prefix : PrefixValue) (arc : Arc) (row : Row) → IsNet net →
    (gives net prefix arc row ≡ bottom) ⊎ IsInhabited (gives net prefix arc row)

-- the row, were a router on none of its paths
abbrev pub without : ℕ → Row → Row
without u row = record row { may = less row.may u; must = less row.must u }

-- what an arc would make of a row, were the receiver on no path, it does make of the row without the receiver
abbrev pub FreeIsTransfer : Type 0
FreeIsTransfer =
    (net : NetValue) (prefix : PrefixValue) (arc : Arc) (u : ℕ) (row : Row) → IsNet net → receiver_of net arc ≡ Some u → IsInhabited row →
    free net prefix arc row ≡ transfer net prefix arc (without u row)

-- an arc that is not open for a row makes nothing of it
abbrev pub ClosedIsBottom : Type 0
ClosedIsBottom =
    (net : NetValue) (prefix : PrefixValue) (arc : Arc) (row : Row) → IsNet net →
    opens net prefix arc row ≡ false → transfer net prefix arc row ≡ bottom

-- what an arc makes of a row of 64-bit words is one, and its paths are short
abbrev pub TransferIsRow : Type 0
TransferIsRow =
    (net : NetValue) (prefix : PrefixValue) (arc : Arc) (row : Row) → IsNet net → IsRow row →
    IsRow (transfer net prefix arc row)

abbrev pub GivesIsRow : Type 0
GivesIsRow =
    (net : NetValue) (prefix : PrefixValue) (arc : Arc) (row : Row) → IsNet net → IsRow row →
    IsRow (gives net prefix arc row)

abbrev pub TransferIsShort : Type 0
TransferIsShort =
    (net : NetValue) (prefix : PrefixValue) (arc : Arc) (row : Row) → IsNet net → IsShort (transfer net prefix arc row)

-- they have at most 21 entries for each router
abbrev pub TransferIsCut : Type 0
TransferIsCut =
    (net : NetValue) (prefix : PrefixValue) (arc : Arc) (row : Row) → IsNet net → (transfer net prefix arc row).length.high ≤ 21 * length net.routers

abbrev pub GivesIsShort : Type 0
GivesIsShort =
    (net : NetValue) (prefix : PrefixValue) (arc : Arc) (row : Row) → IsNet net → IsShort (gives net prefix arc row)

-- the row of a router's local route is the least that the route fits
abbrev pub LocalIsExact : Type 0
LocalIsExact =
    (net : NetValue) (prefix : PrefixValue) (u : ℕ) (distance : Option ℕ) (route : Route) → IsNet net → u < length net.routers →
    local_of net prefix u distance ≡ Some route → IsExact route (local_row net prefix u distance)

-- it is a row of 64-bit words, where the distance is one, and its paths are short
abbrev pub LocalIsRow : Type 0
LocalIsRow =
    (net : NetValue) (prefix : PrefixValue) (u : ℕ) (distance : Option ℕ) → IsNet net → u < length net.routers →
    IfSome distance (λ d. d < 2 ^ 64) → IsRow (local_row net prefix u distance)

abbrev pub LocalIsShort : Type 0
LocalIsShort =
    (net : NetValue) (prefix : PrefixValue) (u : ℕ) (distance : Option ℕ) → IsNet net → u < length net.routers →
    IsShort (local_row net prefix u distance)

-- a policy that leaves some route of a row makes the longest paths no shorter
abbrev pub MapKeepsLength : Type 0
MapKeepsLength =
    (net : NetValue) (u : ℕ) (policy : Policy) (prefix : PrefixValue) (row : Row) →
    IsInhabited (abstract_map net u policy prefix row) → row.length.high ≤ (abstract_map net u policy prefix row).length.high

-- an arc that leaves some route of a row makes the longest paths longer by one entry at least, up to 21 entries for
-- each router
abbrev pub TransferLengthens : Type 0
TransferLengthens =
    (net : NetValue) (prefix : PrefixValue) (arc : Arc) (row : Row) →
    IsInhabited (transfer net prefix arc row) → min (row.length.high + 1) (21 * length net.routers) ≤ (transfer net prefix arc row).length.high

-- and so it is with the row that the arc adds to its receiver's
abbrev pub GivesLengthens : Type 0
GivesLengthens =
    (net : NetValue) (prefix : PrefixValue) (arc : Arc) (row : Row) →
    IsInhabited (gives net prefix arc row) → min (row.length.high + 1) (21 * length net.routers) ≤ (gives net prefix arc row).length.high

-- over a session that is open at both ends it is one entry, up to as many
abbrev pub OpenAddsOne : Type 0
OpenAddsOne =
    (net : NetValue) (prefix : PrefixValue) (arc : Arc) (link : Link) (row : Row) → link_of net arc ≡ Some link →
    (from_end arc.down link).export ≡ Open → (to_end arc.down link).import ≡ Open →
    IsInhabited (gives net prefix arc row) → (gives net prefix arc row).length.high ≡ min (row.length.high + 1) (21 * length net.routers)

-- the cut is a number of 64 bits
abbrev pub LongestIsSmall : Type 0
LongestIsSmall = (net : NetValue) → IsNet net → longest net < 2 ^ 64
