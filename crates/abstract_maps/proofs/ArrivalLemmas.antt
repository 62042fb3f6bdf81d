-- What comes over an arc in a stable labelling has a short path, so the laws of soundness speak of it.
use Rattle.std.proofs.Common.{ℕ, ◌≡◌, ◌≤◌, ◌*◌, ◌&&◌, Bool, true, false, not, List, length, Option, refl}
use Rattle.net_types.specs.declared.arcs.Arc.{Arc}
use Rattle.net_types.specs.declared.routes.Route.{Route}
use Rattle.net_types.specs.Arcs.{is_session}
use Rattle.net_types.specs.FailSets.{holds}
use Rattle.net_types.specs.NetFacts.{IsNet}
use Rattle.net_types.specs.NetValue.{NetValue}
use Rattle.net_types.specs.PrefixValue.{PrefixValue}
use Rattle.concrete_algebra.specs.Problem.{problem_of}
use Rattle.concrete_algebra.specs.Stability.{Arrives, IsStable}
use Rattle.concrete_algebra.proofs.ChainLemmas.{candidate_paths_are_short}
use Rattle.concrete_algebra.proofs.RoutingLemmas.{networks_route}
use Rattle.abstract_maps.specs.Laws.{ArrivalFits, ArrivalIsIn}
use Rattle.abstract_maps.proofs.ArcLemmas.{gives_sound, transfer_sound}

left : (a b : Bool) → (a && b) ≡ true → a ≡ true
left true b e = refl
left false b e = absurd (cc)

short : (net : NetValue) (prefix : PrefixValue) (failed : List ℕ) (distances : List (Option ℕ)) (labels : List (Option Route)) (u : ℕ) (arc : Arc) (sent route : Route) → IsNet net →
    IsStable (problem_of net prefix failed distances) labels → Arrives (problem_of net prefix failed distances) labels u arc sent route → length route.path ≤ 21 * length net.routers
short net prefix failed distances labels u arc sent route valid stable a =
    candidate_paths_are_short (problem_of net prefix failed distances) labels (networks_route net prefix failed distances valid) stable u arc sent route a

pub arrival_fits : ArrivalFits
arrival_fits net prefix failed distances labels u arc row sent route valid words stable a i =
    transfer_sound net prefix arc row sent route valid words (left (is_session net arc) (not (holds failed arc.link)) a.up) i a.carried
    (short net prefix failed distances labels u arc sent route valid stable a)

pub arrival_is_in : ArrivalIsIn
arrival_is_in net prefix failed distances labels u arc row sent route valid words stable a i =
    gives_sound net prefix arc row sent route valid words (left (is_session net arc) (not (holds failed arc.link)) a.up) i a.carried
    (short net prefix failed distances labels u arc sent route valid stable a)
