-- What a round drops, as a test, and what is alive after the last round, as a value. All of this is the project's own.
use Rattle.std.specs.Prelude.{ℕ, ◌≡◌, ◌<◌, ◌^◌, ◌*◌, ◌+◌, ◌==◌, ◌&&◌, ◌||◌, ◌↔◌, Bool, true, false, not, List, length, Option}
use Rattle.std.specs.Option.{is_some, option_map_or}
use Rattle.std.specs.List.{list_any, range_with_len}
use Rattle.net_types.specs.declared.arcs.Arc.{Arc}
use Rattle.net_types.specs.declared.routes.Route.{Route}
use Rattle.net_types.specs.Arcs.{is_up, receiver_of, sender_of, up_of, down_of}
use Rattle.net_types.specs.Distance.{AreDistances}
use Rattle.net_types.specs.NetFacts.{IsNet}
use Rattle.net_types.specs.NetValue.{NetValue}
use Rattle.net_types.specs.Owners.{owns}
use Rattle.net_types.specs.PrefixValue.{PrefixValue}
use Rattle.net_types.specs.Sets.{has}
use Rattle.abstract_route.specs.declared.candidates.Candidate.{Candidate}
use Rattle.abstract_route.specs.Beats.{beats}
use Rattle.abstract_route.specs.Rows.{inhabited, row_at}
use Rattle.concrete_algebra.specs.Problem.{problem_of}
use Rattle.concrete_algebra.specs.Stability.{IsStable}
use Rattle.abstract_maps.specs.Transfer.{passes}
use Rattle.net_types.specs.Turns.{set_of, turns}
use Rattle.possible_fixpoint.specs.Held.{IsHeldAlive, all_alive}
use Rattle.possible_fixpoint.specs.declared.alive.Alive.{Alive}
use Rattle.certain_fixpoint.specs.Certain.{Round, local_at}
use Rattle.certain_fixpoint.specs.CertainSet.{certain_set}
use Rattle.refine_rounds.specs.Rounds.{DropsBeaten, IsBeaten, IsSound, arc_candidate, local_candidate, round_of}

-- the owner's local route is there and beats the candidate of router u
abbrev pub local_beats : Round → ℕ → Candidate → Bool
local_beats round u candidate = owns round.net u round.prefix && (is_some (local_at round u) && beats (local_candidate round u) candidate)

-- from the certain router v the arc surely brings router u something that beats the candidate
abbrev pub sender_beats : Round → ℕ → Candidate → Arc → ℕ → Bool
sender_beats round u candidate arc v =
    has (certain_set round) v && (passes round.net round.prefix arc (row_at round.rows v) &&
    (not (has (row_at round.rows v).may u) && beats (arc_candidate round arc v) candidate))

abbrev pub arc_beats : Round → ℕ → Candidate → Arc → Bool
arc_beats round u candidate arc =
    is_up round.net round.failed arc && (option_map_or (λ w. w == u) (receiver_of round.net arc) false &&
    option_map_or (sender_beats round u candidate arc) (sender_of round.net arc) false)

-- a sure candidate of router u beats it
unfoldable pub is_beaten : Round → ℕ → Candidate → Bool
is_beaten round u candidate =
    local_beats round u candidate ||
    list_any (λ link. arc_beats round u candidate (up_of link) || arc_beats round u candidate (down_of link)) (range_with_len 0 (length round.net.links))

-- a local route that is there and beaten is dropped, and an arc that is up and brings something, all of it beaten
abbrev pub drops_local : Round → ℕ → Bool
drops_local round u = is_some (local_at round u) && is_beaten round u (local_candidate round u)

abbrev pub drops_from : Round → Arc → ℕ → ℕ → Bool
drops_from round arc v u = inhabited (arc_candidate round arc v).row && is_beaten round u (arc_candidate round arc v)

abbrev pub drops_arc : Round → Arc → Bool
drops_arc round arc =
    is_up round.net round.failed arc &&
    option_map_or (λ v. option_map_or (λ u. drops_from round arc v u) (receiver_of round.net arc) false) (sender_of round.net arc) false

-- what is alive after the round
unfoldable pub step : Round → Alive → Alive
step round alive = record {
  up = set_of (λ link. has alive.up link && not (drops_arc round (up_of link))) 64;
  down = set_of (λ link. has alive.down link && not (drops_arc round (down_of link))) 64;
  locals = set_of (λ u. has alive.locals u && not (drops_local round u)) 64;
}

-- after so many rounds, and after the last
abbrev pub alive_after : NetValue → PrefixValue → List ℕ → List (Option ℕ) → ℕ → Alive
alive_after net prefix failed distances rounds = turns (λ alive. step (round_of net prefix failed distances alive) alive) rounds all_alive

unfoldable pub last_alive : NetValue → PrefixValue → List ℕ → List (Option ℕ) → Alive
last_alive net prefix failed distances = alive_after net prefix failed distances (3 * 2 ^ 64 + 1)

-- the test and the fact are one
abbrev pub BeatenIs : Type 0
BeatenIs =
    (round : Round) (u : ℕ) (candidate : Candidate) → IsNet round.net → u < length round.net.routers →
    (is_beaten round u candidate ≡ true) ↔ IsBeaten round u candidate

-- a round drops only what is beaten
abbrev pub StepDropsBeaten : Type 0
StepDropsBeaten = (round : Round) (alive : Alive) → IsNet round.net → DropsBeaten round alive (step round alive)

-- after the last round nothing more is dropped
abbrev pub LastRoundDropsNothing : Type 0
LastRoundDropsNothing =
    (net : NetValue) (prefix : PrefixValue) (failed : List ℕ) (distances : List (Option ℕ)) →
    step (round_of net prefix failed distances (last_alive net prefix failed distances)) (last_alive net prefix failed distances) ≡
    last_alive net prefix failed distances

-- at its rows each label of each stable labelling is in the row of its router, and all that the labelling holds is alive
abbrev pub ResultIsSound : Type 0
ResultIsSound =
    (net : NetValue) (prefix : PrefixValue) (failed : List ℕ) (distances : List (Option ℕ)) (labels : List (Option Route)) → IsNet net →
    AreDistances net prefix failed distances → IsStable (problem_of net prefix failed distances) labels →
    IsHeldAlive (last_alive net prefix failed distances) labels ×
    IsSound (round_of net prefix failed distances (last_alive net prefix failed distances)) labels
