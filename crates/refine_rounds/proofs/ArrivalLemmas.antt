-- What is found of each arc, once, answers what a round asks of it.
use Rattle.std.proofs.Common.{unwrap_or, ℕ, ◌≡◌, ◌<◌, ◌≤◌, ◌+◌, ◌==◌, ◌&&◌, ◌||◌, inl, inr, Bool, true, false, not, if◌then◌else◌, List, [], ◌∷◌, ◌++◌, length, map, Option, Some, None, arith, ap, sym, subst, refl, ◌∙◌}
use Rattle.std.specs.Prelude.{IfSome, option_map, option_and_then, slice_get}
use Rattle.std.specs.Option.{is_some, option_map_or}
use Rattle.std.specs.List.{list_any, range_with_len}
use Rattle.std.proofs.lemmas.Option.{get_or_from_slice_get, slice_get_cases, slice_get_past}
use Rattle.std.proofs.lemmas.List.FromFn.{get_or-map-range_with_len, length-map-range_with_len, map-range_with_len_more}
use Rattle.net_types.specs.declared.arcs.Arc.{Arc}
use Rattle.net_types.specs.Arcs.{down_of, is_up, receiver_of, sender_of, up_of}
use Rattle.net_types.specs.Distance.{distance_at}
use Rattle.net_types.specs.NetFacts.{IsNet}
use Rattle.net_types.specs.NetValue.{NetValue}
use Rattle.net_types.specs.PrefixValue.{PrefixValue}
use Rattle.net_types.specs.Sets.{has}
use Rattle.net_types.proofs.TestLemmas.{same_number}
use Rattle.abstract_route.specs.declared.candidates.Candidate.{Candidate}
use Rattle.abstract_route.specs.Beats.{beats}
use Rattle.abstract_route.specs.Rows.{inhabited, row_at}
use Rattle.abstract_maps.specs.Transfer.{passes}
use Rattle.concrete_algebra.specs.Laws.{IsRouting}
use Rattle.concrete_algebra.specs.LocalRoutes.{local_of}
use Rattle.concrete_algebra.proofs.RoutingLemmas.{networks_route}
use Rattle.certain_fixpoint.specs.Certain.{Round, local_at, problem_at, round_read}
use Rattle.certain_fixpoint.proofs.PassLemmas.{originates_is}
use Rattle.certain_fixpoint.specs.CertainSet.{certain_set}
use Rattle.refine_rounds.specs.declared.arrivals.Arrival.{Arrival}
use Rattle.refine_rounds.specs.declared.arrivals.Arrivals.{Arrivals}
use Rattle.refine_rounds.specs.declared.beating.Found.{Found}
use Rattle.refine_rounds.specs.Arrivals.{AreFound, arrival_beats, arrival_from, arrival_of, arrivals_beat, arrivals_of, arrivals_over, arriving, drops_arrival, either_beats}
use Rattle.refine_rounds.specs.Rounds.{arc_candidate, local_candidate}
use Rattle.refine_rounds.specs.Steps.{arc_beats, drops_arc, drops_from, drops_local, is_beaten, local_beats, sender_beats}

-- ---- tests over a list

any_mapped : {X Y : Type 0} (test : Y → Bool) (f : X → Y) (xs : List X) → list_any test (map f xs) ≡ list_any (λ x. test (f x)) xs
any_mapped test f [] = refl
any_mapped test f (x ∷ xs) = ap (λ b. test (f x) || b) (any_mapped test f xs)

either_same : (a b c d : Bool) → a ≡ c → b ≡ d → (a || b) ≡ (c || d)
either_same a b c d e f = ap (λ x. x || b) e ∙ ap (λ x. c || x) f

any_same : {X : Type 0} (a b : X → Bool) (xs : List X) → ((x : X) → a x ≡ b x) → list_any a xs ≡ list_any b xs
any_same a b [] same = refl
any_same a b (x ∷ xs) same = either_same (a x) (list_any a xs) (b x) (list_any b xs) (same x) (any_same a b xs same)

never : (p : Bool) → (p && false) ≡ false
never true = refl
never false = refl

regrouped : (a b c d : Bool) → (a && (b && (c && d))) ≡ ((a && (b && c)) && d)
regrouped true b c d = regroup b c d where
  regroup : (b c d : Bool) → (b && (c && d)) ≡ ((b && c) && d)
  regroup true c d = refl
  regroup false c d = refl
regrouped false b c d = refl

-- the arrivals over one link more
pub arrivals_more : (round : Round) (certain link : ℕ) → map (arrivals_over round certain) (range_with_len 0 (link + 1)) ≡
    map (arrivals_over round certain) (range_with_len 0 link) ++ arrivals_over round certain link ∷ []
arrivals_more round certain link = map-range_with_len_more (arrivals_over round certain) 0 link link (omega arith)

-- ---- beating

sure_beats : (round : Round) (u w v : ℕ) (candidate : Candidate) (arc : Arc) (same : Bool) → (w == u) ≡ same →
    (same && sender_beats round u candidate arc v) ≡
    (same && ((has (certain_set round) v && (passes round.net round.prefix arc (row_at round.rows v) && not (has (row_at round.rows v).may w))) && beats (arc_candidate round arc v) candidate))
sure_beats round u w v candidate arc false e = refl
sure_beats round u w v candidate arc true e =
    regrouped (has (certain_set round) v) (passes round.net round.prefix arc (row_at round.rows v)) (not (has (row_at round.rows v).may u)) (beats (arc_candidate round arc v) candidate) ∙
    ap (λ (n : ℕ). (has (certain_set round) v && (passes round.net round.prefix arc (row_at round.rows v) && not (has (row_at round.rows v).may n))) && beats (arc_candidate round arc v) candidate) (sym (same_number w u e))

by_parts : (round : Round) (u : ℕ) (candidate : Candidate) (arc : Arc) (up : Bool) (s r : Option ℕ) →
    (up && (option_map_or (λ w. w == u) r false && option_map_or (sender_beats round u candidate arc) s false)) ≡
    arrival_beats u candidate (if up then option_and_then (λ v. option_map (λ w. arrival_from round (certain_set round) arc v w) r) s else None)
by_parts round u candidate arc false s r = refl
by_parts round u candidate arc true None r = never (option_map_or (λ w. w == u) r false)
by_parts round u candidate arc true (Some v) None = refl
by_parts round u candidate arc true (Some v) (Some w) = sure_beats round u w v candidate arc (w == u) refl

arc_beats_is : (round : Round) (u : ℕ) (candidate : Candidate) (arc : Arc) → arc_beats round u candidate arc ≡ arrival_beats u candidate (arrival_of round (certain_set round) arc)
unfolding arrival_of
arc_beats_is round u candidate arc = by_parts round u candidate arc (is_up round.net round.failed arc) (sender_of round.net arc) (receiver_of round.net arc)

-- what is found answers whether a candidate is beaten
pub is_beaten_is : (round : Round) (u : ℕ) (candidate : Candidate) →
    is_beaten round u candidate ≡ (local_beats round u candidate || arrivals_beat u candidate (arrivals_of round (certain_set round)))
unfolding is_beaten
is_beaten_is round u candidate =
    ap (λ b. local_beats round u candidate || b)
    (any_same (λ link. arc_beats round u candidate (up_of link) || arc_beats round u candidate (down_of link))
    (λ link. either_beats u candidate (arrivals_over round (certain_set round) link)) (range_with_len 0 (length round.net.links))
    (λ link. either_same (arc_beats round u candidate (up_of link)) (arc_beats round u candidate (down_of link))
    (arrival_beats u candidate (arrival_of round (certain_set round) (up_of link))) (arrival_beats u candidate (arrival_of round (certain_set round) (down_of link)))
    (arc_beats_is round u candidate (up_of link)) (arc_beats_is round u candidate (down_of link))) ∙
    sym (any_mapped (either_beats u candidate) (arrivals_over round (certain_set round)) (range_with_len 0 (length round.net.links))))

-- ---- dropping

drop_parts : (round : Round) (arc : Arc) (up : Bool) (s r : Option ℕ) →
    (up && option_map_or (λ v. option_map_or (λ u. drops_from round arc v u) r false) s false) ≡
    drops_arrival round (arrivals_of round (certain_set round)) (if up then option_and_then (λ v. option_map (λ w. arrival_from round (certain_set round) arc v w) r) s else None)
drop_parts round arc false s r = refl
drop_parts round arc true None r = refl
drop_parts round arc true (Some v) None = refl
drop_parts round arc true (Some v) (Some u) = ap (λ b. inhabited (arc_candidate round arc v).row && b) (is_beaten_is round u (arc_candidate round arc v))

pub drops_arc_is : (round : Round) (arc : Arc) →
    drops_arc round arc ≡ drops_arrival round (arrivals_of round (certain_set round)) (arrival_of round (certain_set round) arc)
unfolding arrival_of
drops_arc_is round arc = drop_parts round arc (is_up round.net round.failed arc) (sender_of round.net arc) (receiver_of round.net arc)

pub drops_local_is : (round : Round) (u : ℕ) →
    drops_local round u ≡ (is_some (local_at round u) && (local_beats round u (local_candidate round u) || arrivals_beat u (local_candidate round u) (arrivals_of round (certain_set round))))
drops_local_is round u = ap (λ b. is_some (local_at round u) && b) (is_beaten_is round u (local_candidate round u))

-- ---- where there is no such link or router

up_is_low : (round : Round) (arc : Arc) → IsNet round.net → is_up round.net round.failed arc ≡ true → arc.link < length round.net.links
up_is_low round arc valid up =
    let routing : IsRouting (problem_at round) = networks_route round.net round.prefix round.failed round.distances valid in routing.link arc up

pub keeps_other_arcs : (round : Round) (arc : Arc) → IsNet round.net → length round.net.links ≤ arc.link → drops_arc round arc ≡ false
keeps_other_arcs round arc valid high = go (is_up round.net round.failed arc) refl where
  go : (up : Bool) → is_up round.net round.failed arc ≡ up → drops_arc round arc ≡ false
  go false e = ap (λ b. b && option_map_or (λ v. option_map_or (λ u. drops_from round arc v u) (receiver_of round.net arc) false) (sender_of round.net arc) false) e
  go true e = absurd (let low = up_is_low round arc valid e in omega arith)

no_local : (net : NetValue) (prefix : PrefixValue) (u : ℕ) (distance : Option ℕ) → length net.routers ≤ u → local_of net prefix u distance ≡ None
unfolding local_of
no_local net prefix u distance high = rw (slice_get_past net.routers u high) refl

pub keeps_other_locals : (round : Round) (u : ℕ) → length round.net.routers ≤ u → drops_local round u ≡ false
keeps_other_locals round u high = ap (λ o. is_some o && is_beaten round u (local_candidate round u)) (no_local round.net round.prefix u (distance_at round.distances u) high)

-- ---- what is found of one arc

inside_parts : (round : Round) (certain : ℕ) (arc : Arc) (up : Bool) (s r : Option ℕ) → ((w : ℕ) → up ≡ true → r ≡ Some w → w < length round.net.routers) →
    IfSome (if up then option_and_then (λ v. option_map (λ w. arrival_from round certain arc v w) r) s else None) (λ a. a.receiver < length round.net.routers)
inside_parts round certain arc false s r low = _
inside_parts round certain arc true None r low = _
inside_parts round certain arc true (Some v) None low = _
inside_parts round certain arc true (Some v) (Some w) low = low w refl refl

pub arrival_inside : (round : Round) (certain : ℕ) (arc : Arc) → IsNet round.net → IfSome (arrival_of round certain arc) (λ a. a.receiver < length round.net.routers)
unfolding arrival_of
arrival_inside round certain arc valid =
    inside_parts round certain arc (is_up round.net round.failed arc) (sender_of round.net arc) (receiver_of round.net arc) (λ w up to.
    let routing : IsRouting (problem_at round) = networks_route round.net round.prefix round.failed round.distances valid in
    subst (λ (x : ℕ). x < length round.net.routers) (ap (λ (o : Option ℕ). unwrap_or o 0) to) (routing.receiver arc up))

on_way : (round : Round) (certain link : ℕ) (down : Bool) → arriving down (arrivals_over round certain link) ≡ arrival_of round certain (record { link = link; down = down })
on_way round certain link false = refl
on_way round certain link true = refl

-- past the links there is nothing
past_links : (round : Round) (certain : ℕ) (arc : Arc) → IsNet round.net → length round.net.links ≤ arc.link → arrival_of round certain arc ≡ None
unfolding arrival_of
past_links round certain arc valid high = go (is_up round.net round.failed arc) refl where
  go : (up : Bool) → is_up round.net round.failed arc ≡ up → arrival_of round certain arc ≡ None
  go false e = ap (λ b. if b then option_and_then (λ v. option_map (λ w. arrival_from round certain arc v w) (receiver_of round.net arc)) (sender_of round.net arc) else None) e
  go true e = absurd (let low = up_is_low round arc valid e in omega arith)

-- it stands at its link
stands : (round : Round) (certain : ℕ) (arc : Arc) (o : Option Arrivals) → slice_get (arrivals_of round certain) arc.link ≡ o → IsNet round.net →
    option_and_then (arriving arc.down) o ≡ arrival_of round certain arc
stands round certain arc None is valid = sym (past_links round certain arc valid gone) where
  gone : length round.net.links ≤ arc.link
  gone = elim (slice_get_cases (arrivals_of round certain) arc.link).1 [
    | inl (over, low, there, same) ↦ absurd (let f : None ≡ Some over = sym is ∙ there in cc)
    | inr (high, there) ↦ (let e = length-map-range_with_len (arrivals_over round certain) 0 (length round.net.links) in omega arith)
  ]
stands round certain arc (Some over) is valid =
    ap (arriving arc.down)
    (sym (get_or_from_slice_get (arrivals_of round certain) arc.link over over is) ∙
    get_or-map-range_with_len (arrivals_over round certain) 0 (length round.net.links) arc.link arc.link over low (omega arith)) ∙
    on_way round certain arc.link arc.down where
      low : arc.link < length round.net.links
      low = elim (slice_get_cases (arrivals_of round certain) arc.link).1 [
        | inl (x, l, there, same) ↦ (let e = length-map-range_with_len (arrivals_over round certain) 0 (length round.net.links) in omega arith)
        | inr (high, there) ↦ absurd (let f : None ≡ Some over = sym there ∙ is in cc)
      ]

-- what is found of an arc
found_arrival : (found : Found) → AreFound found → IsNet found.reading.now.net.now → (arc : Arc) (o : Option Arrival) →
    o ≡ option_and_then (arriving arc.down) (slice_get found.arrivals.now arc.link) → o ≡ arrival_of (round_read found.reading.now) (certain_set (round_read found.reading.now)) arc
found_arrival found are valid arc o is =
    is ∙ ap (λ (xs : List Arrivals). option_and_then (arriving arc.down) (slice_get xs arc.link)) are.arrivals ∙
    stands (round_read found.reading.now) found.certain arc (slice_get (arrivals_of (round_read found.reading.now) found.certain) arc.link) refl valid ∙
    ap (λ (n : ℕ). arrival_of (round_read found.reading.now) n arc) are.certain

all_found : (found : Found) → AreFound found → found.arrivals.now ≡ arrivals_of (round_read found.reading.now) (certain_set (round_read found.reading.now))
all_found found are = are.arrivals ∙ ap (λ (n : ℕ). arrivals_of (round_read found.reading.now) n) are.certain

pub found_inside : (found : Found) → AreFound found → IsNet found.reading.now.net.now → (arc : Arc) (o : Option Arrival) →
    o ≡ option_and_then (arriving arc.down) (slice_get found.arrivals.now arc.link) → IfSome o (λ a. a.receiver < length found.reading.now.net.now.routers)
found_inside found are valid arc o is =
    subst (λ (x : Option Arrival). IfSome x (λ a. a.receiver < length found.reading.now.net.now.routers)) (sym (found_arrival found are valid arc o is))
    (arrival_inside (round_read found.reading.now) (certain_set (round_read found.reading.now)) arc valid)

pub drops_found : (found : Found) → AreFound found → IsNet found.reading.now.net.now → (arc : Arc) (o : Option Arrival) →
    o ≡ option_and_then (arriving arc.down) (slice_get found.arrivals.now arc.link) → drops_arrival (round_read found.reading.now) found.arrivals.now o ≡ drops_arc (round_read found.reading.now) arc
drops_found found are valid arc o is =
    ap (λ (x : Option Arrival). drops_arrival (round_read found.reading.now) found.arrivals.now x) (found_arrival found are valid arc o is) ∙
    ap (λ (xs : List Arrivals). drops_arrival (round_read found.reading.now) xs (arrival_of (round_read found.reading.now) (certain_set (round_read found.reading.now)) arc)) (all_found found are) ∙
    sym (drops_arc_is (round_read found.reading.now) arc)

pub drops_own : (found : Found) → AreFound found → IsNet found.reading.now.net.now → (u : ℕ) → u < length found.reading.now.net.now.routers → (local : Candidate) →
    local ≡ local_candidate (round_read found.reading.now) u →
    (inhabited local.row && (local_beats (round_read found.reading.now) u local || arrivals_beat u local found.arrivals.now)) ≡ drops_local (round_read found.reading.now) u
drops_own found are valid u low local is =
    ap (λ (c : Candidate). inhabited c.row && (local_beats (round_read found.reading.now) u c || arrivals_beat u c found.arrivals.now)) is ∙
    ap (λ (b : Bool). b && (local_beats (round_read found.reading.now) u (local_candidate (round_read found.reading.now) u) || arrivals_beat u (local_candidate (round_read found.reading.now) u) found.arrivals.now))
    (originates_is found.reading.now.net.now found.reading.now.prefix u (distance_at found.reading.now.distances.now u) valid low) ∙
    ap (λ (xs : List Arrivals). is_some (local_at (round_read found.reading.now) u) && (local_beats (round_read found.reading.now) u (local_candidate (round_read found.reading.now) u) || arrivals_beat u (local_candidate (round_read found.reading.now) u) xs)) (all_found found are) ∙
    sym (drops_local_is (round_read found.reading.now) u)
