-- A round drops nothing that a stable labelling holds.
use Rattle.std.proofs.Common.{ℕ, zero, suc, not, ◌≡◌, ◌<◌, ◌⊎◌, inl, inr, Bool, true, false, List, [], ◌∷◌, length, Option, Some, None, unwrap_or, arith, ap, sym, subst, ◌∙◌, refl}
use Rattle.std.specs.Option.{is_some, option_map}
use Rattle.net_types.specs.declared.arcs.Arc.{Arc}
use Rattle.net_types.specs.declared.routes.Route.{Route}
use Rattle.net_types.specs.declared.routes.Source.{Source}
use Rattle.net_types.specs.declared.routes.Source.TheVariants.{Local, Learned}
use Rattle.net_types.specs.declared.network.Link.{Link}
use Rattle.net_types.specs.Arcs.{from_end, is_session, is_up, receiver_of, sender_of, to_end}
use Rattle.net_types.specs.Better.{is_better}
use Rattle.net_types.specs.Distance.{distance_at}
use Rattle.net_types.specs.FailSets.{holds}
use Rattle.net_types.specs.Routes.{is_on}
use Rattle.net_types.specs.Sets.{has}
use Rattle.abstract_route.specs.declared.candidates.Candidate.{Candidate}
use Rattle.abstract_route.specs.Beats.{IsFrom, IsOf}
use Rattle.abstract_route.specs.Fits.{IsIn}
use Rattle.abstract_route.proofs.BeatsLemmas.{beats_is_sound}
use Rattle.concrete_algebra.specs.Chains.{IsChain}
use Rattle.concrete_algebra.specs.Carrying.{carry_gives}
use Rattle.concrete_algebra.specs.Laws.{IsRouting}
use Rattle.concrete_algebra.specs.Problem.{problem_of}
use Rattle.concrete_algebra.specs.Stability.{Arrives, IsBest, IsCandidate, IsChoice, is_learned, label_at}
use Rattle.concrete_algebra.proofs.RoutingLemmas.{networks_route, up_link}
use Rattle.concrete_algebra.proofs.ChainLemmas.{candidate_paths_are_short, labels_have_chains, paths_are_held}
use Rattle.abstract_maps.proofs.ArcLemmas.{passing_is_sure, transfer_sound}
use Rattle.abstract_maps.proofs.LocalLemmas.{local_is_exact}
use Rattle.net_types.specs.Distance.{AreDistances}
use Rattle.net_types.specs.NetFacts.{IsNet}
use Rattle.net_types.specs.NetValue.{NetValue}
use Rattle.net_types.specs.PrefixValue.{PrefixValue}
use Rattle.concrete_algebra.specs.Stability.{IsStable}
use Rattle.net_types.proofs.TestLemmas.{first}
use Rattle.abstract_route.specs.Rows.{row_at}
use Rattle.possible_fixpoint.proofs.FlowLemmas.{flow_is_lawful}
use Rattle.possible_fixpoint.proofs.HeldLemmas.{all_is_held_alive, label_inside, possible_holds_labels}
use Rattle.possible_fixpoint.proofs.LeastLemmas.{possible_is_least}
use Rattle.possible_fixpoint.specs.Flow.{flow_of, is_alive}
use Rattle.possible_fixpoint.specs.Held.{IsHeldAlive}
use Rattle.possible_fixpoint.specs.declared.alive.Alive.{Alive}
use Rattle.certain_fixpoint.proofs.CertainLemmas.{sender_is, receiver_is}
use Rattle.certain_fixpoint.specs.Certain.{IsClosed, Leads, Round, local_at, problem_at}
use Rattle.refine_rounds.specs.Rounds.{AfterRounds, CertainRoutersHold, HeldStaysAlive, IsBeaten, IsSound, RoundsAreSound, SureIsThere, arc_candidate, local_candidate, round_of}

routing : (round : Round) (labels : List (Option Route)) → IsSound round labels → IsRouting (problem_at round)
routing round labels s = networks_route round.net round.prefix round.failed round.distances s.valid

session : (round : Round) (arc : Arc) → is_up round.net round.failed arc ≡ true → is_session round.net arc ≡ true
session round arc up = first (is_session round.net arc) (not (holds round.failed arc.link)) up

-- ---- certain routers hold a route

held : (o : Option Route) → is_some o ≡ true → (route : Route) × (o ≡ Some route)
held None e = absurd (cc)
held (Some route) e = (route, refl)

-- a router with a candidate holds a route
some_label : (round : Round) (labels : List (Option Route)) (u : ℕ) (o : Option Route) → IsChoice (problem_at round) labels u o → ((o ≡ None) → (route : Route) × IsCandidate (problem_at round) labels u route) → is_some o ≡ true
some_label round labels u None choice c = let d = c refl in absurd (choice d.0 d.1)
some_label round labels u (Some route) choice c = refl

holding_is_closed : (round : Round) (labels : List (Option Route)) → IsSound round labels → IsClosed round (λ u. is_some (label_at labels u))
holding_is_closed round labels s = record {
  local = λ u route low local. some_label round labels u (label_at labels u) (s.stable.each u low)
      (λ none. (route, inr (record { local = local; may = inr (ap is_learned none) })));
  learned = λ arc v u leads holding passing.
      let sent = held (label_at labels v) holding in
      let near : v < length round.net.routers = let e = label_inside labels v sent.0 sent.1 in let f = s.stable.long in omega arith in
      let low : u < length round.net.routers = subst (λ (w : ℕ). w < length round.net.routers) (receiver_is round arc v u leads) ((routing round labels s).receiver arc leads.up) in
      let inside : v < length round.rows = let e = s.long in omega arith in
      elim (passing_is_sure round.net round.prefix arc (row_at round.rows v) sent.0 s.valid (s.words.each v inside) passing (s.holds.each v sent.0 sent.1)) [
        | inl (route, carried) ↦ some_label round labels u (label_at labels u) (s.stable.each u low)
            (λ none. (route, inl (arc, sent.0, comes round labels arc v u leads sent.0 route sent.1 carried)))
        | inr (w, to, on) ↦
            let h = paths_are_held (problem_at round) labels (routing round labels s) s.stable v sent.0 near sent.1 u (subst (λ (x : ℕ). is_on x sent.0.path ≡ true) (some_same w u (sym to ∙ leads.to)) on) in
            ap is_some h.1
      ];
} where
  some_same : (a b : ℕ) → Some a ≡ Some b → a ≡ b
  some_same a b e = cc

  comes : (round : Round) (labels : List (Option Route)) (arc : Arc) (v u : ℕ) → Leads round arc v u → (sent route : Route) → label_at labels v ≡ Some sent → carry_gives round.net round.prefix arc sent ≡ Some route → Arrives (problem_at round) labels u arc sent route
  comes round labels arc v u leads sent route label carried = record {
    up = leads.up;
    to = receiver_is round arc v u leads;
    held = ap (λ (w : ℕ). label_at labels w) (sender_is round arc v u leads) ∙ label;
    carried = carried;
  }

pub certain_routers_hold : CertainRoutersHold
certain_routers_hold round labels s u certain = held (label_at labels u) (certain (λ w. is_some (label_at labels w)) (holding_is_closed round labels s))

-- ---- sure candidates are there

from_local : (round : Round) (source : Source) → source ≡ Local → IsFrom round.net None source
from_local round source e = subst (λ (s : Source). IsFrom round.net None s) (sym e) tt

from_arc : (round : Round) (arc : Arc) (v : ℕ) (source : Source) → sender_of round.net arc ≡ Some v → source ≡ Learned arc → IsFrom round.net (Some v) source
from_arc round arc v source from e = subst (λ (s : Source). IsFrom round.net (Some v) s) (sym e) from

local_is_of : (round : Round) (labels : List (Option Route)) → IsSound round labels → (u : ℕ) (route : Route) → u < length round.net.routers → local_at round u ≡ Some route → IsOf round.net (local_candidate round u) route
local_is_of round labels s u route low local = (
  (local_is_exact round.net round.prefix u (distance_at round.distances u) route s.valid low local).fits,
  from_local round route.source ((routing round labels s).local u route local).source,
)

arc_is_of : (round : Round) (labels : List (Option Route)) → IsSound round labels → (arc : Arc) (v u : ℕ) → Leads round arc v u → (sent route : Route) → label_at labels v ≡ Some sent → carry_gives round.net round.prefix arc sent ≡ Some route → IsOf round.net (arc_candidate round arc v) route
arc_is_of round labels s arc v u leads sent route label carried =
    let near : v < length round.rows = let e = label_inside labels v sent label in let f = s.stable.long in let g = s.long in omega arith in
    let arrives : Arrives (problem_at round) labels u arc sent route = record {
      up = leads.up;
      to = receiver_is round arc v u leads;
      held = ap (λ (w : ℕ). label_at labels w) (sender_is round arc v u leads) ∙ label;
      carried = carried;
    } in
    let short = candidate_paths_are_short (problem_at round) labels (routing round labels s) s.stable u arc sent route arrives in (
      transfer_sound round.net round.prefix arc (row_at round.rows v) sent route s.valid (s.words.each v near) (session round arc leads.up) (s.holds.each v sent label) carried short,
      from_arc round arc v route.source leads.from ((routing round labels s).carried arc sent route leads.up carried).source,
    )

pub sure_is_there : SureIsThere
sure_is_there round labels s u candidate low sure = elim sure [
  | inl l ↦ (
    l.route,
    inr (record { local = l.local; may = inl l.owner }),
    subst (λ (c : Candidate). IsOf round.net c l.route) (sym l.is) (local_is_of round labels s u l.route low l.local),
  )
  | inr a ↦
      let sent = certain_routers_hold round labels s a.v a.certain in
      let inside : a.v < length round.rows = let e = label_inside labels a.v sent.0 sent.1 in let f = s.stable.long in let g = s.long in omega arith in
      let here : IsIn sent.0 (row_at round.rows a.v) = s.holds.each a.v sent.0 sent.1 in
      elim (passing_is_sure round.net round.prefix a.arc (row_at round.rows a.v) sent.0 s.valid (s.words.each a.v inside) a.passing here) [
        | inl (route, carried) ↦ (
          route,
          inl (
            a.arc,
            sent.0,
            record {
              up = a.leads.up;
              to = receiver_is round a.arc a.v u a.leads;
              held = ap (λ (w : ℕ). label_at labels w) (sender_is round a.arc a.v u a.leads) ∙ sent.1;
              carried = carried;
            },
          ),
          subst (λ (c : Candidate). IsOf round.net c route) (sym a.is) (arc_is_of round labels s a.arc a.v u a.leads sent.0 route sent.1 carried),
        )
        | inr (w, to, on) ↦
            absurd (apart (has (row_at round.rows a.v).may u) (here.may u (subst (λ (x : ℕ). is_on x sent.0.path ≡ true) (some_same w u (sym to ∙ a.leads.to)) on)) a.absent)
      ]
] where
  some_same : (a b : ℕ) → Some a ≡ Some b → a ≡ b
  some_same a b e = cc

  apart : (b : Bool) → b ≡ true → b ≡ false → ⊥
  apart b e f = cc

-- ---- what is beaten is held nowhere

best : (round : Round) (labels : List (Option Route)) → IsSound round labels → (u : ℕ) (route : Route) → u < length round.net.routers → label_at labels u ≡ Some route → IsBest (problem_at round) labels u route
best round labels s u route low label = subst (λ (o : Option Route). IsChoice (problem_at round) labels u o) label (s.stable.each u low)

beaten_label : (round : Round) (labels : List (Option Route)) → IsSound round labels → (u : ℕ) (route : Route) (candidate : Candidate) → u < length round.net.routers → label_at labels u ≡ Some route → IsOf round.net candidate route → IsBeaten round u candidate → ⊥
beaten_label round labels s u route candidate low label of (sure, is, beating) =
    let there = sure_is_there round labels s u sure low is in
    let better = beats_is_sound round.net sure candidate there.0 route beating there.2 of in
    let not_better = (best round labels s u route low label).best there.0 there.1 in
    apart (is_better round.net there.0 route) better not_better where
      apart : (b : Bool) → b ≡ true → b ≡ false → ⊥
      apart b e f = cc

-- where a label came from
data Origin (round : Round) (labels : List (Option Route)) (u : ℕ) (route : Route) : Type 0 where
  own : local_at round u ≡ Some route → route.source ≡ Local → Origin round labels u route
  over : (arc : Arc) (v : ℕ) (sent : Route) → Leads round arc v u → label_at labels v ≡ Some sent → carry_gives round.net round.prefix arc sent ≡ Some route → route.source ≡ Learned arc → Origin round labels u route

leads_from : (round : Round) (labels : List (Option Route)) → IsSound round labels → (arc : Arc) (v u : ℕ) → is_up round.net round.failed arc ≡ true → (problem_at round).sender arc ≡ v → (problem_at round).receiver arc ≡ u → Leads round arc v u
leads_from round labels s arc v u up from to =
    let link = up_link round.net round.failed arc up in
    record {
      up = up;
      from = some_of (sender_of round.net arc) v (ap (λ (o : Option Link). is_some (option_map (λ (l : Link). (from_end arc.down l).router) o)) link.1) from;
      to = some_of (receiver_of round.net arc) u (ap (λ (o : Option Link). is_some (option_map (λ (l : Link). (to_end arc.down l).router) o)) link.1) to;
    } where
      some_of : (o : Option ℕ) (n : ℕ) → is_some o ≡ true → unwrap_or o 0 ≡ n → o ≡ Some n
      some_of None n e f = absurd (cc)
      some_of (Some m) n e f = ap Some f

head_held : (round : Round) (labels : List (Option Route)) (chain : List ℕ) (v : ℕ) (sent : Route) → IsChain (problem_at round) labels chain v sent → label_at labels v ≡ Some sent
head_held round labels [] v sent (label, local) = label
head_held round labels (w ∷ later) v sent (before, c, rest) = c.held

origin_of_chain : (round : Round) (labels : List (Option Route)) → IsSound round labels → (chain : List ℕ) (u : ℕ) (route : Route) → IsChain (problem_at round) labels chain u route → Origin round labels u route
origin_of_chain round labels s [] u route (label, local) = own local ((routing round labels s).local u route local).source
origin_of_chain round labels s (v ∷ later) u route (sent, c, rest) =
    over c.arc v sent (leads_from round labels s c.arc v u c.up c.from c.to) (head_held round labels later v sent rest) c.carried
    ((routing round labels s).carried c.arc sent route c.up c.carried).source

origin : (round : Round) (labels : List (Option Route)) → IsSound round labels → (u : ℕ) (route : Route) → u < length round.net.routers → label_at labels u ≡ Some route → Origin round labels u route
origin round labels s u route low label =
    let h = labels_have_chains (problem_at round) labels (routing round labels s) s.stable u route low label in
    origin_of_chain round labels s h.0 u route h.1

kept : (after : Bool) (beaten : Type 0) → (after ≡ true) ⊎ beaten → (beaten → ⊥) → after ≡ true
kept after beaten either never = elim either [
  | inl stays ↦ stays
  | inr is ↦ absurd (never is)
]

apart_sources : (arc : Arc) → Local ≡ Learned arc → ⊥
apart_sources arc e = cc

same_arcs : (a b : Arc) → Learned a ≡ Learned b → a ≡ b
same_arcs a b e = cc

pub held_stays_alive : HeldStaysAlive
held_stays_alive round labels before after s drops alive = record {
  local = λ u route label source.
      let low : u < length round.net.routers = let e = label_inside labels u route label in let f = s.stable.long in omega arith in
      kept (has after.locals u) (IsBeaten round u (local_candidate round u)) (drops.local u low (alive.local u route label source))
      (λ beaten. elim (origin round labels s u route low label) [
        | own local is ↦ beaten_label round labels s u route (local_candidate round u) low label (local_is_of round labels s u route low local) beaten
        | over arc v sent leads came carried is ↦ apart_sources arc (sym source ∙ is)
      ]);
  learned = λ u route arc label source.
      let low : u < length round.net.routers = let e = label_inside labels u route label in let f = s.stable.long in omega arith in
      elim (origin round labels s u route low label) [
        | own local is ↦ absurd (apart_sources arc (sym is ∙ source))
        | over a v sent leads came carried is ↦
            subst (λ (e : Arc). is_alive after e ≡ true) (same_arcs a arc (sym is ∙ source))
            (kept (is_alive after a) (IsBeaten round u (arc_candidate round a v)) (drops.learned a v u leads (alive.learned u route a label is))
            (λ beaten. beaten_label round labels s u route (arc_candidate round a v) low label (arc_is_of round labels s a v u leads sent route came carried) beaten))
      ];
}

-- ---- all rounds

sound_round : (net : NetValue) (prefix : PrefixValue) (failed : List ℕ) (distances : List (Option ℕ)) (labels : List (Option Route)) → IsNet net →
    AreDistances net prefix failed distances → IsStable (problem_of net prefix failed distances) labels → (alive : Alive) → IsHeldAlive alive labels →
    IsSound (round_of net prefix failed distances alive) labels
sound_round net prefix failed distances labels valid are stable alive held =
    let least = possible_is_least (flow_of net prefix failed distances alive) (flow_is_lawful net prefix failed distances alive valid are) in
    record {
      valid = valid;
      stable = stable;
      words = least.words;
      long = least.solves.long;
      holds = possible_holds_labels net prefix failed distances alive labels valid are stable held;
    }

alive_after : (net : NetValue) (prefix : PrefixValue) (failed : List ℕ) (distances : List (Option ℕ)) (labels : List (Option Route)) → IsNet net →
    AreDistances net prefix failed distances → IsStable (problem_of net prefix failed distances) labels →
    (rounds : ℕ) (alive : Alive) → AfterRounds net prefix failed distances rounds alive → IsHeldAlive alive labels
unfolding AfterRounds
alive_after net prefix failed distances labels valid are stable zero alive e =
    subst (λ (a : Alive). IsHeldAlive a labels) (sym e) (all_is_held_alive net prefix failed distances labels valid stable)
alive_after net prefix failed distances labels valid are stable (suc rounds) alive (before, earlier, drops) =
    let held = alive_after net prefix failed distances labels valid are stable rounds before earlier in
    held_stays_alive (round_of net prefix failed distances before) labels before alive
    (sound_round net prefix failed distances labels valid are stable before held) drops held

pub rounds_are_sound : RoundsAreSound
rounds_are_sound net prefix failed distances labels valid are stable rounds alive after =
    let held = alive_after net prefix failed distances labels valid are stable rounds alive after in
    (held, sound_round net prefix failed distances labels valid are stable alive held)
