-- What a round drops: the candidates that are surely there, and what these beat. All of this is the project's own.
use Rattle.std.specs.Prelude.{ℕ, zero, suc, ◌≡◌, ◌<◌, ◌⊎◌, true, false, List, length, Option, Some, None}
use Rattle.net_types.specs.declared.arcs.Arc.{Arc}
use Rattle.net_types.specs.declared.routes.Route.{Route}
use Rattle.net_types.specs.Distance.{AreDistances, distance_at}
use Rattle.net_types.specs.NetFacts.{IsNet}
use Rattle.net_types.specs.NetValue.{NetValue}
use Rattle.net_types.specs.Owners.{owns}
use Rattle.net_types.specs.PrefixValue.{PrefixValue}
use Rattle.net_types.specs.Sets.{has}
use Rattle.abstract_route.specs.declared.candidates.Candidate.{Candidate}
use Rattle.abstract_route.specs.Beats.{beats, IsOf}
use Rattle.concrete_algebra.specs.Problem.{problem_of}
use Rattle.concrete_algebra.specs.Stability.{IsCandidate, IsStable, label_at}
use Rattle.abstract_maps.specs.LocalRow.{local_row}
use Rattle.abstract_maps.specs.Transfer.{passes, transfer}
use Rattle.abstract_route.specs.Rows.{row_at}
use Rattle.possible_fixpoint.specs.Flow.{flow_of, is_alive}
use Rattle.possible_fixpoint.specs.Held.{AreIn, IsHeldAlive, all_alive}
use Rattle.possible_fixpoint.specs.Possible.{AreRows, possible}
use Rattle.possible_fixpoint.specs.declared.alive.Alive.{Alive}
use Rattle.certain_fixpoint.specs.Certain.{Round, problem_at, local_at, Leads, IsCertain}

-- what may come to a router from itself, and over an arc from router v
abbrev pub local_candidate : Round → ℕ → Candidate
local_candidate round u = record { row = local_row round.net round.prefix u (distance_at round.distances u); sender = None }

abbrev pub arc_candidate : Round → Arc → ℕ → Candidate
arc_candidate round arc v = record { row = transfer round.net round.prefix arc (row_at round.rows v); sender = Some v }

-- an owner's local route is surely a candidate
pub record IsSureLocal (round : Round) (u : ℕ) (candidate : Candidate) : Type 0 where
  pub owner : owns round.net u round.prefix ≡ true
  pub route : Route
  pub local : local_at round u ≡ Some route
  pub is : candidate ≡ local_candidate round u

-- so is what comes over an arc that passes the row of a certain router, if u is on no path of the row
pub record IsSureArc (round : Round) (u : ℕ) (candidate : Candidate) : Type 0 where
  pub arc : Arc
  pub v : ℕ
  pub leads : Leads round arc v u
  pub certain : IsCertain round v
  pub passing : passes round.net round.prefix arc (row_at round.rows v) ≡ true
  pub absent : has (row_at round.rows v).may u ≡ false
  pub is : candidate ≡ arc_candidate round arc v

abbrev pub IsSure : Round → ℕ → Candidate → Type 0
IsSure round u candidate = IsSureLocal round u candidate ⊎ IsSureArc round u candidate

-- a sure candidate of router u beats it
abbrev pub IsBeaten : Round → ℕ → Candidate → Type 0
IsBeaten round u candidate = (sure : Candidate) × IsSure round u sure × (beats sure candidate ≡ true)

-- all that is alive and does not stay so is beaten
pub record DropsBeaten (round : Round) (before after : Alive) : Type 0 where
  pub local : (u : ℕ) → u < length round.net.routers → has before.locals u ≡ true → (has after.locals u ≡ true) ⊎ IsBeaten round u (local_candidate round u)
  pub learned : (arc : Arc) (v u : ℕ) → Leads round arc v u → is_alive before arc ≡ true → (is_alive after arc ≡ true) ⊎ IsBeaten round u (arc_candidate round arc v)

-- a stable labelling whose labels are in the rows of the round
pub record IsSound (round : Round) (labels : List (Option Route)) : Type 0 where
  pub valid : IsNet round.net
  pub stable : IsStable (problem_at round) labels
  pub words : AreRows round.rows
  pub long : length round.rows ≡ length round.net.routers
  pub holds : AreIn labels round.rows

-- each certain router holds a route
abbrev pub CertainRoutersHold : Type 0
CertainRoutersHold =
    (round : Round) (labels : List (Option Route)) → IsSound round labels → (u : ℕ) → IsCertain round u →
    (route : Route) × (label_at labels u ≡ Some route)

-- each sure candidate is there: the router has a candidate that is one of its routes
abbrev pub SureIsThere : Type 0
SureIsThere =
    (round : Round) (labels : List (Option Route)) → IsSound round labels → (u : ℕ) (candidate : Candidate) → u < length round.net.routers →
    IsSure round u candidate → (route : Route) × IsCandidate (problem_at round) labels u route × IsOf round.net candidate route

-- so what is beaten is held nowhere: all that is held stays alive where only what is beaten is dropped
abbrev pub HeldStaysAlive : Type 0
HeldStaysAlive =
    (round : Round) (labels : List (Option Route)) (before after : Alive) → IsSound round labels → DropsBeaten round before after →
    IsHeldAlive before labels → IsHeldAlive after labels

-- the round whose rows are the least solution with this alive
abbrev pub round_of : NetValue → PrefixValue → List ℕ → List (Option ℕ) → Alive → Round
round_of net prefix failed distances alive = record {
  net = net;
  prefix = prefix;
  failed = failed;
  distances = distances;
  rows = possible (flow_of net prefix failed distances alive);
}

-- what may be alive after so many rounds: at first all is, and each round drops only what is beaten on its rows
unfoldable pub AfterRounds : NetValue → PrefixValue → List ℕ → List (Option ℕ) → ℕ → Alive → Type 0
AfterRounds net prefix failed distances zero alive = alive ≡ all_alive
AfterRounds net prefix failed distances (suc rounds) alive =
    (before : Alive) × AfterRounds net prefix failed distances rounds before × DropsBeaten (round_of net prefix failed distances before) before alive

-- each stable labelling is sound at the rows of each round, and all that it holds is alive
abbrev pub RoundsAreSound : Type 0
RoundsAreSound =
    (net : NetValue) (prefix : PrefixValue) (failed : List ℕ) (distances : List (Option ℕ)) (labels : List (Option Route)) → IsNet net →
    AreDistances net prefix failed distances → IsStable (problem_of net prefix failed distances) labels →
    (rounds : ℕ) (alive : Alive) → AfterRounds net prefix failed distances rounds alive →
    IsHeldAlive alive labels × IsSound (round_of net prefix failed distances alive) labels
