-- What is true of all rows and routes.
use Rattle.std.specs.Prelude.{◌≡◌, ◌<◌, ◌≤◌, ◌*◌, ◌^◌, ◌↔◌, true, length, All}
use Rattle.net_types.specs.declared.arcs.Arc.{Arc}
use Rattle.net_types.specs.declared.routes.Route.{Route}
use Rattle.net_types.specs.declared.routes.Source.TheVariants.{Local, Learned}
use Rattle.net_types.specs.Better.{is_better}
use Rattle.net_types.specs.NetValue.{NetValue}
use Rattle.abstract_route.specs.declared.candidates.Candidate.{Candidate}
use Rattle.abstract_route.specs.declared.rows.Row.{Row}
use Rattle.abstract_route.specs.Beats.{beats, candidate_of, HasSender, IsBest, IsFrom, IsOf, IsWorst}
use Rattle.abstract_route.specs.Fits.{Fits, IsExact, IsIn, exact_row}
use Rattle.abstract_route.specs.Heights.{row_rank}
use Rattle.abstract_route.specs.OneRoute.{HasRoom, IsLike}
use Rattle.abstract_route.specs.Rows.{IsBelow, IsJoin, IsRow, IsInhabited, carried_row, joined, inhabited, bottom}

-- each row is below itself
abbrev pub BelowIsReflexive : Type 0
BelowIsReflexive = (a : Row) → IsBelow a a

abbrev pub BelowIsTransitive : Type 0
BelowIsTransitive = (a b c : Row) → IsBelow a b → IsBelow b c → IsBelow a c

-- rows below each other are one row
abbrev pub BelowIsAntisymmetric : Type 0
BelowIsAntisymmetric = (a b : Row) → IsBelow a b → IsBelow b a → a ≡ b

-- the join is the least row above both
abbrev pub JoinIsLeast : Type 0
JoinIsLeast = (a b : Row) → IsJoin a b (joined a b)

-- rows of 64-bit words have a join of 64-bit words
abbrev pub JoinIsRow : Type 0
JoinIsRow = (a b : Row) → IsRow a → IsRow b → IsRow (joined a b)

-- the row of no route has words of 64 bits
abbrev pub BottomIsRow : Type 0
BottomIsRow = IsRow bottom

-- it is below every row
abbrev pub BottomIsBelow : Type 0
BottomIsBelow = (r : Row) → IsRow r → IsBelow bottom r

-- no route fits it
abbrev pub BottomFitsNone : Type 0
BottomFitsNone = (route : Route) → Fits route bottom → ⊥

-- a row above is of no lower rank
abbrev pub RankRises : Type 0
RankRises = (a b : Row) → IsBelow a b → row_rank a ≤ row_rank b

-- a row above is another row only with a higher rank
abbrev pub RankIsStrict : Type 0
RankIsStrict = (a b : Row) → IsRow a → IsRow b → IsBelow a b → row_rank b ≤ row_rank a → a ≡ b

-- no rank is beyond fourteen words
abbrev pub RankIsBounded : Type 0
RankIsBounded = (a : Row) → IsRow a → row_rank a < 14 * 2 ^ 64

-- the test and the fact are one
abbrev pub InhabitedIs : Type 0
InhabitedIs = (row : Row) → (inhabited row ≡ true) ↔ IsInhabited row

-- a row above an inhabited one is inhabited
abbrev pub InhabitedUp : Type 0
InhabitedUp = (a b : Row) → IsBelow a b → IsInhabited a → IsInhabited b

-- the rows that some route fits are the inhabited ones that begin at an origin and have room for a path
abbrev pub HasRouteWhere : Type 0
HasRouteWhere = (row : Row) → IsRow row → ((route : Route) × Fits route row) ↔ (IsInhabited row × (row.origin.low ≤ 2) × HasRoom row)

-- what fits a row fits each row above
abbrev pub FitsUp : Type 0
FitsUp = (route : Route) (a b : Row) → IsBelow a b → Fits route a → Fits route b

-- a row that a route fits is inhabited
abbrev pub FitIsInhabited : Type 0
FitIsInhabited = (route : Route) (row : Row) → Fits route row → IsInhabited row

-- each route has a least row that it fits
abbrev pub ExactIsLeast : Type 0
ExactIsLeast = (route : Route) → route.communities < 2 ^ 64 → IsExact route (exact_row route)

-- it is a row of 64-bit words where the route's numbers are
abbrev pub ExactIsRow : Type 0
ExactIsRow =
    (route : Route) → route.weight < 2 ^ 64 → route.preference < 2 ^ 64 → length route.path < 2 ^ 64 → route.med < 2 ^ 64 →
    route.communities < 2 ^ 64 → All (λ x. x < 64) route.path → IsRow (exact_row route)

-- only routes like it fit it
abbrev pub ExactFitsOne : Type 0
ExactFitsOne = (route other : Route) → route.communities < 2 ^ 64 → Fits other (exact_row route) → IsLike other route

-- a local route is in its exact row, with its own MED
abbrev pub LocalIsIn : Type 0
LocalIsIn = (route : Route) → route.communities < 2 ^ 64 → route.source ≡ Local → IsIn route (exact_row route)

-- a learned route is in it with MED 0
abbrev pub LearnedIsIn : Type 0
LearnedIsIn =
    (route : Route) (arc : Arc) → route.communities < 2 ^ 64 → route.source ≡ Learned arc →
    IsIn route (carried_row (exact_row route))

-- of one route, the row that a learned route is kept in is the exact row of the route with MED 0
abbrev pub CarriedIsExact : Type 0
CarriedIsExact = (route : Route) → carried_row (exact_row route) ≡ exact_row (record route { med = 0 })

-- the row that a learned route is kept in is a row of 64-bit words where its row is
abbrev pub CarriedIsRow : Type 0
CarriedIsRow = (row : Row) → IsRow row → IsRow (carried_row row)

-- it grows with the row
abbrev pub CarriedUp : Type 0
CarriedUp = (a b : Row) → IsBelow a b → IsBelow (carried_row a) (carried_row b)

-- with MED 0, a route that fits a row fits the row that it is kept in
abbrev pub CarriedFits : Type 0
CarriedFits = (route : Route) (row : Row) → Fits route row → Fits (record route { med = 0 }) (carried_row row)

-- where a candidate beats another, each of its routes is better than each of the other's
abbrev pub BeatsIsSound : Type 0
BeatsIsSound =
    (net : NetValue) (a b : Candidate) (r s : Route) → beats a b ≡ true →
    IsOf net a r → IsOf net b s → is_better net r s ≡ true

-- it beats another exactly where the route that is its worst at each step is better than the best of the other
abbrev pub BeatsIsExact : Type 0
BeatsIsExact =
    (net : NetValue) (a b : Candidate) (r s : Route) → IsWorst r a.row → IsBest s b.row →
    IsFrom net a.sender r.source → IsFrom net b.sender s.source → beats a b ≡ is_better net r s

-- where the worst of the one and the best of the other are routes of theirs, it beats another exactly where each of its
-- routes is better than each of the other's
abbrev pub BeatsIsEach : Type 0
BeatsIsEach =
    (net : NetValue) (a b : Candidate) (worst best : Route) → IsOf net a worst → IsWorst worst a.row → IsOf net b best → IsBest best b.row →
    (beats a b ≡ true) ↔ ((r s : Route) → IsOf net a r → IsOf net b s → is_better net r s ≡ true)

-- of candidates of one route each, the one whose route is better beats the other, and no other does
abbrev pub BeatsOfRoutes : Type 0
BeatsOfRoutes =
    (net : NetValue) (r s : Route) → HasSender net r.source → HasSender net s.source →
    beats (candidate_of net r) (candidate_of net s) ≡ is_better net r s

-- a route is one of its candidate's
abbrev pub RouteIsOf : Type 0
RouteIsOf =
    (net : NetValue) (route : Route) → route.communities < 2 ^ 64 → HasSender net route.source →
    IsOf net (candidate_of net route) route
