-- What a round drops is beaten, the rounds end, and what is alive then is sound.
use Rattle.std.proofs.Common.{ℕ, zero, suc, ◌≡◌, ◌<◌, ◌≤◌, ◌+◌, ◌-◌, ◌*◌, ◌^◌, ◌==◌, ◌&&◌, ◌||◌, ◌⊎◌, inl, inr, Bool, true, false, not, List, length, Option, Some, arith, ap, sym, subst, ◌∙◌, refl, lit<}
use Rattle.std.specs.Option.{is_some, option_map_or}
use Rattle.std.specs.List.{list_any, range_with_len}
use Rattle.net_types.specs.declared.arcs.Arc.{Arc}
use Rattle.net_types.specs.Arcs.{is_up, receiver_of, sender_of, up_of, down_of}
use Rattle.net_types.specs.NetFacts.{IsNet}
use Rattle.net_types.specs.NetValue.{NetValue}
use Rattle.net_types.specs.Owners.{owns}
use Rattle.net_types.specs.PrefixValue.{PrefixValue}
use Rattle.net_types.specs.Sets.{has}
use Rattle.net_types.proofs.SetLemmas.{part_le}
use Rattle.abstract_route.specs.declared.candidates.Candidate.{Candidate}
use Rattle.abstract_route.specs.Beats.{beats}
use Rattle.abstract_route.specs.Rows.{inhabited, row_at}
use Rattle.abstract_maps.specs.Transfer.{passes}
use Rattle.concrete_algebra.specs.Laws.{IsRouting}
use Rattle.concrete_algebra.proofs.RoutingLemmas.{networks_route}
use Rattle.net_types.proofs.TestLemmas.{any_at, any_found, both, either, equal_self, is_some_of, left, pair, right, same_number, some_is}
use Rattle.net_types.proofs.TurnLemmas.{set_in, set_past, turns-zero, turns-suc, settles}
use Rattle.net_types.specs.Turns.{set_of}
use Rattle.possible_fixpoint.specs.Flow.{is_alive, living_links}
use Rattle.possible_fixpoint.specs.Held.{all_alive}
use Rattle.possible_fixpoint.specs.declared.alive.Alive.{Alive}
use Rattle.certain_fixpoint.proofs.CertainLemmas.{certain_set_is, sender_is}
use Rattle.certain_fixpoint.specs.Certain.{Leads, Round, local_at, problem_at}
use Rattle.certain_fixpoint.specs.CertainSet.{certain_set}
use Rattle.refine_rounds.proofs.RoundLemmas.{rounds_are_sound}
use Rattle.refine_rounds.specs.Rounds.{AfterRounds, DropsBeaten, IsBeaten, arc_candidate, local_candidate, round_of}
use Rattle.refine_rounds.specs.Steps.{BeatenIs, LastRoundDropsNothing, ResultIsSound, StepDropsBeaten, alive_after, arc_beats, drops_arc, drops_from, drops_local, is_beaten, last_alive, local_beats, sender_beats, step}

negated : (p : Bool) → not p ≡ true → p ≡ false
negated true e = absurd (cc)
negated false e = refl

-- ---- beaten

sender_low : (round : Round) → IsNet round.net → (arc : Arc) (v u : ℕ) → Leads round arc v u → v < length round.net.routers
sender_low round valid arc v u leads =
    let routing : IsRouting (problem_at round) = networks_route round.net round.prefix round.failed round.distances valid in
    subst (λ (w : ℕ). w < length round.net.routers) (sender_is round arc v u leads) (routing.sender arc leads.up)

arc_found : (round : Round) (u : ℕ) (candidate : Candidate) → IsNet round.net → (arc : Arc) → arc_beats round u candidate arc ≡ true → IsBeaten round u candidate
arc_found round u candidate valid arc e =
    let a = both (is_up round.net round.failed arc) (option_map_or (λ w. w == u) (receiver_of round.net arc) false && option_map_or (sender_beats round u candidate arc) (sender_of round.net arc) false) e in
    let b = both (option_map_or (λ w. w == u) (receiver_of round.net arc) false) (option_map_or (sender_beats round u candidate arc) (sender_of round.net arc) false) a.1 in
    let to = some_is (λ w. w == u) (receiver_of round.net arc) b.0 in
    let from = some_is (sender_beats round u candidate arc) (sender_of round.net arc) b.1 in
    let v : ℕ = from.0 in
    let leads : Leads round arc from.0 u = record { up = a.0; from = from.1; to = to.1 ∙ ap Some (same_number to.0 u to.2) } in
    let c = both (has (certain_set round) from.0) (passes round.net round.prefix arc (row_at round.rows from.0) && (not (has (row_at round.rows from.0).may u) && beats (arc_candidate round arc from.0) candidate)) from.2 in
    let d = both (passes round.net round.prefix arc (row_at round.rows from.0)) (not (has (row_at round.rows from.0).may u) && beats (arc_candidate round arc from.0) candidate) c.1 in
    let f = both (not (has (row_at round.rows from.0).may u)) (beats (arc_candidate round arc from.0) candidate) d.1 in (
      arc_candidate round arc from.0,
      inr (record {
        arc = arc;
        v = from.0;
        leads = leads;
        certain = (certain_set_is round valid from.0 (sender_low round valid arc from.0 u leads)).0 c.0;
        passing = d.0;
        absent = negated (has (row_at round.rows from.0).may u) f.0;
        is = refl;
      }),
      f.1,
    )

local_found : (round : Round) (u : ℕ) (candidate : Candidate) → local_beats round u candidate ≡ true → IsBeaten round u candidate
local_found round u candidate e =
    let a = both (owns round.net u round.prefix) (is_some (local_at round u) && beats (local_candidate round u) candidate) e in
    let b = both (is_some (local_at round u)) (beats (local_candidate round u) candidate) a.1 in
    let r = is_some_of (local_at round u) b.0 in
    (local_candidate round u, inl (record { owner = a.0; route = r.0; local = r.1; is = refl }), b.1)

-- whether something over a link beats it
abbrev links_beat : Round → ℕ → Candidate → Bool
links_beat round u candidate =
    list_any (λ link. arc_beats round u candidate (up_of link) || arc_beats round u candidate (down_of link)) (range_with_len 0 (length round.net.links))

beaten_found : (round : Round) (u : ℕ) (candidate : Candidate) → IsNet round.net → is_beaten round u candidate ≡ true → IsBeaten round u candidate
unfolding is_beaten
beaten_found round u candidate valid e = elim (either (local_beats round u candidate) (links_beat round u candidate) e) [
  | inl local ↦ local_found round u candidate local
  | inr some ↦
      let link = any_found (λ link. arc_beats round u candidate (up_of link) || arc_beats round u candidate (down_of link)) 0 (length round.net.links) some in
      elim (either (arc_beats round u candidate (up_of link.0)) (arc_beats round u candidate (down_of link.0)) link.1) [
        | inl up ↦ arc_found round u candidate valid (up_of link.0) up
        | inr down ↦ arc_found round u candidate valid (down_of link.0) down
      ]
]

over_link : (round : Round) (u : ℕ) (candidate : Candidate) (link : ℕ) (down : Bool) → arc_beats round u candidate (record { link = link; down = down }) ≡ true → (arc_beats round u candidate (up_of link) || arc_beats round u candidate (down_of link)) ≡ true
over_link round u candidate link false e = left (arc_beats round u candidate (up_of link)) (arc_beats round u candidate (down_of link)) e
over_link round u candidate link true e = right (arc_beats round u candidate (up_of link)) (arc_beats round u candidate (down_of link)) e

opposite : (p : Bool) → p ≡ false → not p ≡ true
opposite true e = absurd (cc)
opposite false e = refl

arc_shows : (round : Round) (u : ℕ) (candidate : Candidate) → IsNet round.net → (arc : Arc) (v : ℕ) → Leads round arc v u → sender_beats round u candidate arc v ≡ true → arc_beats round u candidate arc ≡ true
arc_shows round u candidate valid arc v leads e =
    pair (is_up round.net round.failed arc) (option_map_or (λ w. w == u) (receiver_of round.net arc) false && option_map_or (sender_beats round u candidate arc) (sender_of round.net arc) false) leads.up
    (pair (option_map_or (λ w. w == u) (receiver_of round.net arc) false) (option_map_or (sender_beats round u candidate arc) (sender_of round.net arc) false)
    (ap (λ (o : Option ℕ). option_map_or (λ w. w == u) o false) leads.to ∙ equal_self u)
    (ap (λ (o : Option ℕ). option_map_or (sender_beats round u candidate arc) o false) leads.from ∙ e))

beaten_shows : (round : Round) (u : ℕ) (candidate : Candidate) → IsNet round.net → IsBeaten round u candidate → is_beaten round u candidate ≡ true
unfolding is_beaten
beaten_shows round u candidate valid (sure, is, beating) = elim is [
  | inl l ↦
      let better : beats (local_candidate round u) candidate ≡ true = subst (λ (c : Candidate). beats c candidate ≡ true) l.is beating in
      left (local_beats round u candidate) (links_beat round u candidate)
      (pair (owns round.net u round.prefix) (is_some (local_at round u) && beats (local_candidate round u) candidate) l.owner
      (pair (is_some (local_at round u)) (beats (local_candidate round u) candidate) (ap is_some l.local) better))
  | inr a ↦
      let better : beats (arc_candidate round a.arc a.v) candidate ≡ true = subst (λ (c : Candidate). beats c candidate ≡ true) a.is beating in
      let member = (certain_set_is round valid a.v (sender_low round valid a.arc a.v u a.leads)).1 a.certain in
      let routing : IsRouting (problem_at round) = networks_route round.net round.prefix round.failed round.distances valid in
      right (local_beats round u candidate) (links_beat round u candidate)
      (any_at (λ link. arc_beats round u candidate (up_of link) || arc_beats round u candidate (down_of link)) 0 (length round.net.links) a.arc.link (omega arith)
      (let e = routing.link a.arc a.leads.up in omega arith)
      (over_link round u candidate a.arc.link a.arc.down
      (arc_shows round u candidate valid a.arc a.v a.leads
      (pair (has (certain_set round) a.v) (passes round.net round.prefix a.arc (row_at round.rows a.v) && (not (has (row_at round.rows a.v).may u) && beats (arc_candidate round a.arc a.v) candidate)) member
      (pair (passes round.net round.prefix a.arc (row_at round.rows a.v)) (not (has (row_at round.rows a.v).may u) && beats (arc_candidate round a.arc a.v) candidate) a.passing
      (pair (not (has (row_at round.rows a.v).may u)) (beats (arc_candidate round a.arc a.v) candidate) (opposite (has (row_at round.rows a.v).may u) a.absent) better))))))
]

pub beaten_is : BeatenIs
beaten_is round u candidate valid low = (beaten_found round u candidate valid, beaten_shows round u candidate valid)

-- ---- one round

kept_or_dropped : (held drops : Bool) → held ≡ true → ((held && not drops) ≡ true) ⊎ (drops ≡ true)
kept_or_dropped held true e = inr refl
kept_or_dropped true false e = inl refl
kept_or_dropped false false e = absurd (cc)

dropped_arc : (round : Round) (arc : Arc) (v u : ℕ) → IsNet round.net → Leads round arc v u → drops_arc round arc ≡ true → IsBeaten round u (arc_candidate round arc v)
dropped_arc round arc v u valid leads e =
    let a = both (is_up round.net round.failed arc) (option_map_or (λ v. option_map_or (λ u. drops_from round arc v u) (receiver_of round.net arc) false) (sender_of round.net arc) false) e in
    let is : drops_from round arc v u ≡ true =
    sym (ap (λ (o : Option ℕ). option_map_or (λ v. option_map_or (λ u. drops_from round arc v u) (receiver_of round.net arc) false) o false) leads.from ∙
    ap (λ (o : Option ℕ). option_map_or (λ u. drops_from round arc v u) o false) leads.to) ∙ a.1 in
    beaten_found round u (arc_candidate round arc v) valid (both (inhabited (arc_candidate round arc v).row) (is_beaten round u (arc_candidate round arc v)) is).1

link_kept : (round : Round) (alive : Alive) (down : Bool) (link : ℕ) → link < 64 → (has (living_links down alive) link && not (drops_arc round (record { link = link; down = down }))) ≡ true → has (living_links down (step round alive)) link ≡ true
unfolding step
link_kept round alive false link low e = set_in (λ link. has alive.up link && not (drops_arc round (up_of link))) 64 link low ∙ e
link_kept round alive true link low e = set_in (λ link. has alive.down link && not (drops_arc round (down_of link))) 64 link low ∙ e

local_kept : (round : Round) (alive : Alive) (u : ℕ) → u < 64 → (has alive.locals u && not (drops_local round u)) ≡ true → has (step round alive).locals u ≡ true
unfolding step
local_kept round alive u low e = set_in (λ u. has alive.locals u && not (drops_local round u)) 64 u low ∙ e

pub step_drops_beaten : StepDropsBeaten
step_drops_beaten round alive valid = record {
  local = λ u low e. elim (kept_or_dropped (has alive.locals u) (drops_local round u) e) [
    | inl kept ↦ inl (local_kept round alive u (let f = valid.few_routers in omega arith) kept)
    | inr drops ↦ inr (beaten_found round u (local_candidate round u) valid (both (is_some (local_at round u)) (is_beaten round u (local_candidate round u)) drops).1)
  ];
  learned = λ arc v u leads e. elim (kept_or_dropped (is_alive alive arc) (drops_arc round arc) e) [
    | inl kept ↦
        let routing : IsRouting (problem_at round) = networks_route round.net round.prefix round.failed round.distances valid in
        inl (link_kept round alive arc.down arc.link (let f = routing.link arc leads.up in let g = valid.few_links in omega arith) kept)
    | inr drops ↦ inr (dropped_arc round arc v u valid leads drops)
  ];
}

-- ---- all rounds

pub after_rounds : (net : NetValue) (prefix : PrefixValue) (failed : List ℕ) (distances : List (Option ℕ)) → IsNet net → (k : ℕ) → AfterRounds net prefix failed distances k (alive_after net prefix failed distances k)
unfolding AfterRounds
after_rounds net prefix failed distances valid zero = turns-zero (λ alive. step (round_of net prefix failed distances alive) alive) all_alive
after_rounds net prefix failed distances valid (suc k) =
    let before : Alive = alive_after net prefix failed distances k in (
      alive_after net prefix failed distances k,
      after_rounds net prefix failed distances valid k,
      subst (λ (a : Alive). DropsBeaten (round_of net prefix failed distances (alive_after net prefix failed distances k)) (alive_after net prefix failed distances k) a)
          (sym (turns-suc (λ alive. step (round_of net prefix failed distances alive) alive) k all_alive))
          (step_drops_beaten (round_of net prefix failed distances (alive_after net prefix failed distances k)) (alive_after net prefix failed distances k) valid),
    )

pub result_is_sound : ResultIsSound
unfolding last_alive
result_is_sound net prefix failed distances labels valid are stable =
    rounds_are_sound net prefix failed distances labels valid are stable (3 * 2 ^ 64 + 1) (alive_after net prefix failed distances (3 * 2 ^ 64 + 1))
    (after_rounds net prefix failed distances valid (3 * 2 ^ 64 + 1))

-- ---- the rounds end

below_or_not : (x : ℕ) → (x < 64) ⊎ (64 ≤ x)
below_or_not x = grind arith

set_part : (set : ℕ) (drops : ℕ → Bool) → set_of (λ x. has set x && not (drops x)) 64 ≤ set
set_part set drops = part_le (set_of (λ x. has set x && not (drops x)) 64) set (record {
  members = λ x e. elim (below_or_not x) [
    | inl low ↦ (both (has set x) (not (drops x)) (sym (set_in (λ x. has set x && not (drops x)) 64 x low) ∙ e)).0
    | inr high ↦ absurd (let f = set_past (λ x. has set x && not (drops x)) 64 x high in cc)
  ];
})

pub step_falls : (round : Round) (alive : Alive) → ((step round alive).up ≤ alive.up) × ((step round alive).down ≤ alive.down) × ((step round alive).locals ≤ alive.locals)
unfolding step
step_falls round alive = (set_part alive.up (λ link. drops_arc round (up_of link)), set_part alive.down (λ link. drops_arc round (down_of link)), set_part alive.locals (drops_local round))

-- how much has been dropped
abbrev dropped : Alive → ℕ
dropped alive = 3 * 2 ^ 64 - (alive.up + alive.down + alive.locals)

abbrev is_small : Alive → Type 0
is_small alive = (alive.up < 2 ^ 64) × (alive.down < 2 ^ 64) × (alive.locals < 2 ^ 64)

pub after_small : (net : NetValue) (prefix : PrefixValue) (failed : List ℕ) (distances : List (Option ℕ)) (k : ℕ) → is_small (alive_after net prefix failed distances k)
after_small net prefix failed distances zero = rw (turns-zero (λ alive. step (round_of net prefix failed distances alive) alive) all_alive) (lit< tt, lit< tt, lit< tt)
after_small net prefix failed distances (suc k) = rw (turns-suc (λ alive. step (round_of net prefix failed distances alive) alive) k all_alive)
    (let f = step_falls (round_of net prefix failed distances (alive_after net prefix failed distances k)) (alive_after net prefix failed distances k) in
    let s = after_small net prefix failed distances k in (omega arith, omega arith, omega arith))

pub falls : (net : NetValue) (prefix : PrefixValue) (failed : List ℕ) (distances : List (Option ℕ)) (k : ℕ) → ((alive_after net prefix failed distances (suc k)).up ≤ (alive_after net prefix failed distances k).up) × ((alive_after net prefix failed distances (suc k)).down ≤ (alive_after net prefix failed distances k).down) × ((alive_after net prefix failed distances (suc k)).locals ≤ (alive_after net prefix failed distances k).locals)
falls net prefix failed distances k = rw (turns-suc (λ alive. step (round_of net prefix failed distances alive) alive) k all_alive) (step_falls (round_of net prefix failed distances (alive_after net prefix failed distances k)) (alive_after net prefix failed distances k))

pub same_alive : (a b : Alive) → a.up ≡ b.up → a.down ≡ b.down → a.locals ≡ b.locals → a ≡ b
same_alive a b e f g = λ i. record { up = e i; down = f i; locals = g i }

pub last_round_drops_nothing : LastRoundDropsNothing
unfolding last_alive
last_round_drops_nothing net prefix failed distances = settles (λ alive. step (round_of net prefix failed distances alive) alive) dropped all_alive (3 * 2 ^ 64 + 1)
    (λ k. let f = falls net prefix failed distances k in omega arith)
    (λ k same. let f = falls net prefix failed distances k in let s = after_small net prefix failed distances k in
    same_alive (alive_after net prefix failed distances k) (alive_after net prefix failed distances (suc k)) (omega arith) (omega arith) (omega arith))
    (omega arith)
