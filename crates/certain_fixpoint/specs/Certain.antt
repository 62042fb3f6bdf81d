-- What a round reads off its rows: the routers that surely hold a route. All of this is the project's own.
use Rattle.std.specs.Prelude.{ℕ, ◌≡◌, ◌<◌, Bool, true, List, length, Option, Some}
use Rattle.net_types.specs.declared.arcs.Arc.{Arc}
use Rattle.net_types.specs.declared.routes.Route.{Route}
use Rattle.net_types.specs.Arcs.{is_up, receiver_of, sender_of}
use Rattle.net_types.specs.Distance.{distance_at}
use Rattle.net_types.specs.NetValue.{NetValue}
use Rattle.net_types.specs.PrefixValue.{PrefixValue}
use Rattle.abstract_route.specs.declared.rows.Row.{Row}
use Rattle.concrete_algebra.specs.LocalRoutes.{local_of}
use Rattle.concrete_algebra.specs.Problem.{Problem, problem_of}
use Rattle.abstract_maps.specs.Transfer.{passes}
use Rattle.abstract_route.specs.Rows.{row_at}
use Rattle.certain_fixpoint.specs.declared.reading.Reading.{Reading}

-- what a round reads: the case, and the rows
pub record Round : Type 0 where
  pub net : NetValue
  pub prefix : PrefixValue
  pub failed : List ℕ
  pub distances : List (Option ℕ)
  pub rows : List Row

-- the round that is read
abbrev pub round_read : Reading → Round
round_read reading = record { net = reading.net.now; prefix = reading.prefix; failed = reading.failed.now; distances = reading.distances.now; rows = reading.rows.now }

abbrev pub problem_at : Round → Problem
problem_at round = problem_of round.net round.prefix round.failed round.distances

abbrev pub local_at : Round → ℕ → Option Route
local_at round u = local_of round.net round.prefix u (distance_at round.distances u)

-- the arc is up, from router v to router u; whether it has been dropped does not count
pub record Leads (round : Round) (arc : Arc) (v u : ℕ) : Type 0 where
  pub up : is_up round.net round.failed arc ≡ true
  pub from : sender_of round.net arc ≡ Some v
  pub to : receiver_of round.net arc ≡ Some u

-- a set that holds each router with a local route, and with a router each one that an arc which passes its row leads to
pub record IsClosed (round : Round) (set : ℕ → Bool) : Type 0 where
  pub local : (u : ℕ) (route : Route) → u < length round.net.routers → local_at round u ≡ Some route → set u ≡ true
  pub learned : (arc : Arc) (v u : ℕ) → Leads round arc v u → set v ≡ true → passes round.net round.prefix arc (row_at round.rows v) ≡ true → set u ≡ true

-- the router is in the least such set
abbrev pub IsCertain : Round → ℕ → Type 0
IsCertain round u = (set : ℕ → Bool) → IsClosed round set → set u ≡ true
