-- The result of a case, a prefix with a set of failed links, and what it says of each stable labelling. All of this is the
-- project's own.
use Rattle.std.specs.Prelude.{ℕ, ◌≡◌, true, List, Option, Some}
use Rattle.net_types.specs.declared.routes.Route.{Route}
use Rattle.net_types.specs.NetFacts.{IsNet}
use Rattle.net_types.specs.NetValue.{NetValue}
use Rattle.net_types.specs.PrefixValue.{PrefixValue}
use Rattle.net_types.specs.Sets.{has}
use Rattle.ospf_paths.specs.DistanceList.{distance_list}
use Rattle.abstract_route.specs.declared.rows.Row.{Row}
use Rattle.concrete_algebra.specs.Problem.{problem_of}
use Rattle.concrete_algebra.specs.Stability.{IsStable, label_at}
use Rattle.possible_fixpoint.specs.declared.alive.Alive.{Alive}
use Rattle.possible_fixpoint.specs.Flow.{flow_of}
use Rattle.possible_fixpoint.specs.Held.{AreIn, IsHeldAlive, all_alive}
use Rattle.possible_fixpoint.specs.Possible.{possible}
use Rattle.certain_fixpoint.specs.CertainSet.{certain_set}
use Rattle.refine_rounds.specs.Idle.{idle_set}
use Rattle.refine_rounds.specs.Rounds.{round_of}
use Rattle.refine_rounds.specs.Steps.{alive_after, last_alive, step}

-- what is known of a case after its last round: the rows, the certain routers, what is alive, the OSPF distances, and the
-- links that are idle, which the first round tells
pub record CaseValue : Type 0 where
  pub rows : List Row
  pub certain : ℕ
  pub alive : Alive
  pub distances : List (Option ℕ)
  pub idle : ℕ

-- that of these distances and of what is alive in the last round
abbrev pub result_at : NetValue → PrefixValue → List ℕ → List (Option ℕ) → Alive → CaseValue
result_at net prefix failed distances alive = record {
  rows = possible (flow_of net prefix failed distances alive);
  certain = certain_set (round_of net prefix failed distances alive);
  alive = alive;
  distances = distances;
  idle = idle_set (round_of net prefix failed distances all_alive);
}

-- the result of a case: at the least distances, after the first round that drops nothing
unfoldable pub result_of : NetValue → PrefixValue → List ℕ → CaseValue
result_of net prefix failed =
    result_at net prefix failed (distance_list net prefix failed) (last_alive net prefix failed (distance_list net prefix failed))

-- containment: each label of each stable labelling is in the row of its router, and the arc that it came over, or the
-- local route that it is, is alive
abbrev pub Contains : NetValue → PrefixValue → List ℕ → CaseValue → Type 0
Contains net prefix failed result =
    (labels : List (Option Route)) → IsStable (problem_of net prefix failed result.distances) labels →
    AreIn labels result.rows × IsHeldAlive result.alive labels

-- certainty: each certain router holds a route in each stable labelling
abbrev pub CertainHold : NetValue → PrefixValue → List ℕ → CaseValue → Type 0
CertainHold net prefix failed result =
    (labels : List (Option Route)) → IsStable (problem_of net prefix failed result.distances) labels →
    (u : ℕ) → has result.certain u ≡ true → (route : Route) × (label_at labels u ≡ Some route)

-- drops: what a round drops is held in no stable labelling, since after each round all that one holds is alive
abbrev pub DropsNothingHeld : NetValue → PrefixValue → List ℕ → CaseValue → Type 0
DropsNothingHeld net prefix failed result =
    (labels : List (Option Route)) → IsStable (problem_of net prefix failed result.distances) labels →
    (rounds : ℕ) → IsHeldAlive (alive_after net prefix failed result.distances rounds) labels

-- the three of the result of each case of each network
abbrev pub ResultsContain : Type 0
ResultsContain = (net : NetValue) (prefix : PrefixValue) (failed : List ℕ) → IsNet net → Contains net prefix failed (result_of net prefix failed)

abbrev pub ResultsAreCertain : Type 0
ResultsAreCertain = (net : NetValue) (prefix : PrefixValue) (failed : List ℕ) → IsNet net → CertainHold net prefix failed (result_of net prefix failed)

abbrev pub ResultsDropNothingHeld : Type 0
ResultsDropNothingHeld = (net : NetValue) (prefix : PrefixValue) (failed : List ℕ) → IsNet net → DropsNothingHeld net prefix failed (result_of net prefix failed)

-- a round that drops nothing is the last, however many rounds there were before it
abbrev pub FirstQuietRoundIsLast : Type 0
FirstQuietRoundIsLast =
    (net : NetValue) (prefix : PrefixValue) (failed : List ℕ) (distances : List (Option ℕ)) (rounds : ℕ) →
    step (round_of net prefix failed distances (alive_after net prefix failed distances rounds)) (alive_after net prefix failed distances rounds) ≡
    alive_after net prefix failed distances rounds →
    alive_after net prefix failed distances rounds ≡ last_alive net prefix failed distances
