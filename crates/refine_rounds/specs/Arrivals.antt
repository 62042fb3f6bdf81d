-- What a round finds of each arc, once, for all that it asks of it. All of this is the project's own.
use Rattle.std.specs.Prelude.{ℕ, ◌≡◌, ◌==◌, ◌&&◌, ◌||◌, Bool, true, false, not, if◌then◌else◌, List, length, map, Option, Some, None, option_map, option_and_then}
use Rattle.std.specs.List.{list_any, range_with_len}
use Rattle.net_types.specs.declared.arcs.Arc.{Arc}
use Rattle.net_types.specs.Arcs.{down_of, is_up, receiver_of, sender_of, up_of}
use Rattle.net_types.specs.Sets.{has}
use Rattle.abstract_route.specs.declared.candidates.Candidate.{Candidate}
use Rattle.abstract_route.specs.Beats.{beats}
use Rattle.abstract_route.specs.Rows.{inhabited, row_at}
use Rattle.abstract_maps.specs.Transfer.{passes}
use Rattle.certain_fixpoint.specs.Certain.{Round, round_read}
use Rattle.certain_fixpoint.specs.CertainSet.{certain_set}
use Rattle.refine_rounds.specs.declared.arrivals.Arrival.{Arrival}
use Rattle.refine_rounds.specs.declared.arrivals.Arrivals.{Arrivals}
use Rattle.refine_rounds.specs.declared.beating.Found.{Found}
use Rattle.refine_rounds.specs.Rounds.{arc_candidate}
use Rattle.refine_rounds.specs.Steps.{local_beats}

-- what may come from router v to router u over an arc that is up, and whether it surely does, with these certain routers
abbrev pub arrival_from : Round → ℕ → Arc → ℕ → ℕ → Arrival
arrival_from round certain arc v u = record {
  receiver = u;
  candidate = arc_candidate round arc v;
  sure = has certain v && (passes round.net round.prefix arc (row_at round.rows v) && not (has (row_at round.rows v).may u));
}

-- the same of an arc, none where it is not up
unfoldable pub arrival_of : Round → ℕ → Arc → Option Arrival
arrival_of round certain arc =
    if is_up round.net round.failed arc
    then option_and_then (λ v. option_map (λ u. arrival_from round certain arc v u) (receiver_of round.net arc)) (sender_of round.net arc)
    else None

-- over both arcs of a link, and over all links
abbrev pub arrivals_over : Round → ℕ → ℕ → Arrivals
arrivals_over round certain link = record { up = arrival_of round certain (up_of link); down = arrival_of round certain (down_of link) }

abbrev pub arrivals_of : Round → ℕ → List Arrivals
arrivals_of round certain = map (arrivals_over round certain) (range_with_len 0 (length round.net.links))

-- the certain set and the arrivals of the round that is read
pub record AreFound (found : Found) : Type 0 where
  pub certain : found.certain ≡ certain_set (round_read found.reading.now)
  pub arrivals : found.arrivals.now ≡ arrivals_of (round_read found.reading.now) found.certain

-- what surely arrives at router u beats the candidate
abbrev pub arrival_beats : ℕ → Candidate → Option Arrival → Bool
arrival_beats u candidate None = false
arrival_beats u candidate (Some arrival) = (arrival.receiver == u) && (arrival.sure && beats arrival.candidate candidate)

abbrev pub either_beats : ℕ → Candidate → Arrivals → Bool
either_beats u candidate arrivals = arrival_beats u candidate arrivals.up || arrival_beats u candidate arrivals.down

abbrev pub arrivals_beat : ℕ → Candidate → List Arrivals → Bool
arrivals_beat u candidate arrivals = list_any (either_beats u candidate) arrivals

-- what arrives is dropped: it has a route, and something sure at its receiver beats it
abbrev pub drops_arrival : Round → List Arrivals → Option Arrival → Bool
drops_arrival round arrivals None = false
drops_arrival round arrivals (Some arrival) =
    inhabited arrival.candidate.row &&
    (local_beats round arrival.receiver arrival.candidate || arrivals_beat arrival.receiver arrival.candidate arrivals)

-- what arrives in one direction of a link
abbrev pub arriving : Bool → Arrivals → Option Arrival
arriving false arrivals = arrivals.up
arriving true arrivals = arrivals.down
