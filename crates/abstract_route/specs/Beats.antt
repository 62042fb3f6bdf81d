-- A test that suffices for every route of one candidate to be better than every route of another: the worst of the
-- one is compared with the best of the other, in the steps of `net_types/specs/Better.antt`. This is the project's own.
use Rattle.std.specs.Prelude.{ℕ, ◌≡◌, if◌then◌else◌, Bool, List, [], ◌∷◌, length, Option, Some, None}
use Rattle.std.specs.declared.cmp.Ordering.{Ordering}
use Rattle.std.specs.declared.cmp.Ordering.TheVariants.{Equal}
use Rattle.std.specs.Ordering.{is_lt, nat_cmp}
use Rattle.net_types.specs.declared.routes.Route.{Route}
use Rattle.net_types.specs.declared.routes.Source.{Source}
use Rattle.net_types.specs.declared.routes.Source.TheVariants.{Local, Learned}
use Rattle.net_types.specs.Arcs.{sender_of}
use Rattle.net_types.specs.Better.{same_router, first_difference, origin_rank}
use Rattle.net_types.specs.NetValue.{NetValue}
use Rattle.abstract_route.specs.declared.candidates.Candidate.{Candidate}
use Rattle.abstract_route.specs.declared.rows.Range.{Range}
use Rattle.abstract_route.specs.declared.rows.Row.{Row}
use Rattle.abstract_route.specs.Fits.{Fits, exact_row}

-- local comes before learned
abbrev pub sender_rank : Option ℕ → ℕ
sender_rank None = 0
sender_rank (Some u) = 1

-- the worst of a against the best of b, where more is better and where less is; `Less` says that a is better
abbrev pub by_more : Range → Range → Ordering
by_more a b = nat_cmp b.high a.low

abbrev pub by_less : Range → Range → Ordering
by_less a b = nat_cmp a.high b.low

-- lower MED first, where both are learned from one router; else no difference
abbrev pub by_med : Candidate → Candidate → Ordering
by_med a b = if same_router a.sender b.sender then by_less a.row.med b.row.med else Equal

-- the steps in their order
abbrev pub worst_steps : Candidate → Candidate → List Ordering
worst_steps a b =
    by_more a.row.weight b.row.weight ∷
    by_more a.row.preference b.row.preference ∷
    nat_cmp (sender_rank a.sender) (sender_rank b.sender) ∷
    by_less a.row.length b.row.length ∷
    by_less a.row.origin b.row.origin ∷
    by_med a b ∷
    []

-- at the first step where the worst of a and the best of b differ, the worst of a is better
abbrev pub beats : Candidate → Candidate → Bool
beats a b = is_lt (first_difference (worst_steps a b))

-- the route comes from there: from the router itself, or over an arc whose sender is that router
abbrev pub IsFrom : NetValue → Option ℕ → Source → Type 0
IsFrom net None Local = Unit {0}
IsFrom net None (Learned arc) = ⊥
IsFrom net (Some u) Local = ⊥
IsFrom net (Some u) (Learned arc) = sender_of net arc ≡ Some u

-- the route is one of the candidate's: it fits its row, and comes from its sender
abbrev pub IsOf : NetValue → Candidate → Route → Type 0
IsOf net candidate route = Fits route candidate.row × IsFrom net candidate.sender route.source

-- the route has the worst value of each range
pub record IsWorst (route : Route) (row : Row) : Type 0 where
  pub weight : route.weight ≡ row.weight.low
  pub preference : route.preference ≡ row.preference.low
  pub length : length route.path ≡ row.length.high
  pub origin : origin_rank route.origin ≡ row.origin.high
  pub med : route.med ≡ row.med.high

-- the route has the best value of each range
pub record IsBest (route : Route) (row : Row) : Type 0 where
  pub weight : route.weight ≡ row.weight.high
  pub preference : route.preference ≡ row.preference.high
  pub length : length route.path ≡ row.length.low
  pub origin : origin_rank route.origin ≡ row.origin.low
  pub med : route.med ≡ row.med.low

-- the router that a route was learned from, none where it is local
abbrev pub learned_from : NetValue → Source → Option ℕ
learned_from net Local = None
learned_from net (Learned arc) = sender_of net arc

-- an arc that a route was learned over has a sender
abbrev pub HasSender : NetValue → Source → Type 0
HasSender net Local = Unit {0}
HasSender net (Learned arc) = (u : ℕ) × (sender_of net arc ≡ Some u)

-- the candidate whose one route this is
abbrev pub candidate_of : NetValue → Route → Candidate
candidate_of net route = record { row = exact_row route; sender = learned_from net route.source }
