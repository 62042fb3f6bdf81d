-- From what single arcs say to what all candidates of a router say, and to whether its label is stable.
use Rattle.std.proofs.Common.{ℕ, ◌≡◌, ◌<◌, ◌+◌, ◌&&◌, ◌||◌, ◌⊎◌, inl, inr, ◌↔◌, Bool, true, false, not, IsTrue, List, length, Option, Some, None, IsSomeAnd, unwrap_or, arith, ap, sym, subst, ◌∙◌, refl, if◌then◌else◌}
use Rattle.std.specs.Option.{option_and_then, option_map}
use Rattle.std.proofs.lemmas.Bool.{eq-eqb, eqb-true}
use Rattle.net_types.specs.declared.arcs.Arc.{Arc}
use Rattle.net_types.specs.declared.network.Link.{Link}
use Rattle.net_types.specs.declared.routes.Route.{Route}
use Rattle.net_types.specs.Arcs.{from_end, is_up, receiver_of, sender_of, to_end}
use Rattle.net_types.specs.Better.{is_better, same_router}
use Rattle.net_types.specs.Distance.{distance_at}
use Rattle.net_types.specs.NetFacts.{IsNet}
use Rattle.net_types.specs.NetValue.{NetValue}
use Rattle.net_types.specs.Owners.{owns}
use Rattle.net_types.specs.PrefixValue.{PrefixValue}
use Rattle.concrete_algebra.specs.declared.findings.Findings.{Findings}
use Rattle.concrete_algebra.specs.Carrying.{carry_gives}
use Rattle.concrete_algebra.specs.Findings.{AllSay, IsFound, IsPreferred, LinkSays, LinksSay, Says, arrival, carried_label, either_of, is_into, local_candidate, stands}
use Rattle.concrete_algebra.specs.LocalRoutes.{local_of}
use Rattle.concrete_algebra.specs.Problem.{problem_of}
use Rattle.concrete_algebra.specs.Stability.{Arrives, IsBest, IsCandidate, IsChoice, IsLocalCandidate, IsStableAt, is_learned, label_at}
use Rattle.concrete_algebra.proofs.OptionLemmas.{of_and_then}
use Rattle.concrete_algebra.proofs.RoutingLemmas.{networks_route, up_link}

-- ---- one link more

either_true : (a b : Bool) → IsTrue (a || b) → IsTrue a ⊎ IsTrue b
either_true true b t = inl refl
either_true false b t = inr t

left_true : (a b : Bool) → IsTrue a → IsTrue (a || b)
left_true true b t = refl
left_true false b t = absurd (cc)

right_true : (a b : Bool) → IsTrue b → IsTrue (a || b)
right_true true b t = refl
right_true false b t = t

-- each arc of the next link goes up or down
direction : (property : Arc → Type 0) (arc : Arc) (k : ℕ) → arc.link ≡ k → property arc → property (record { link = k; down = false }) ⊎ property (record { link = k; down = true })
direction property arc k e p = go arc.down refl where
  go : (down : Bool) → arc.down ≡ down → property (record { link = k; down = false }) ⊎ property (record { link = k; down = true })
  go false f = inl (subst property (λ i. record { link = e i; down = f i }) p)
  go true f = inr (subst property (λ i. record { link = e i; down = f i }) p)

below_or_last : (n k : ℕ) → n < k + 1 → (n < k) ⊎ (n ≡ k)
below_or_last n k low = grind arith

pub found_none : (property : Arc → Type 0) → IsFound property 0 false
found_none property = record { is = ((λ t. absurd (cc)), (λ (arc, low, p). absurd (omega arith))) }

pub found_more : (property : Arc → Type 0) (k : ℕ) (found up down : Bool) → IsFound property k found →
    (IsTrue up ↔ property (record { link = k; down = false })) → (IsTrue down ↔ property (record { link = k; down = true })) →
    IsFound property (k + 1) (found || (up || down))
found_more property k found up down before u d = record { is = (there, here) } where
  there : IsTrue (found || (up || down)) → (arc : Arc) × (arc.link < k + 1) × property arc
  there t = elim (either_true found (up || down) t) [
    | inl old ↦ let h = before.is.0 old in (h.0, (let low = h.1 in omega arith), h.2)
    | inr new ↦ elim (either_true up down new) [
      | inl first ↦ ((record { link = k; down = false }), (omega arith), u.0 first)
      | inr second ↦ ((record { link = k; down = true }), (omega arith), d.0 second)
    ]
  ]

  here : (arc : Arc) × (arc.link < k + 1) × property arc → IsTrue (found || (up || down))
  here (arc, low, p) = elim (below_or_last arc.link k low) [
    | inl old ↦ left_true found (up || down) (before.is.1 (arc, old, p))
    | inr new ↦ right_true found (up || down) (elim (direction property arc k new p) [
      | inl first ↦ left_true up down (u.1 first)
      | inr second ↦ right_true up down (d.1 second)
    ])
  ]

pub links_none : (net : NetValue) (prefix : PrefixValue) (failed : List ℕ) (labels : List (Option Route)) (u : ℕ) → LinksSay net prefix failed labels u 0 (record { among = false; preferred = false })
links_none net prefix failed labels u = record {
  among = found_none (λ arc. IsSomeAnd (arrival net prefix failed labels u arc) (λ route. label_at labels u ≡ Some route));
  preferred = found_none (λ arc. IsSomeAnd (arrival net prefix failed labels u arc) (λ route. IsPreferred net (label_at labels u) route));
}

pub links_more : (net : NetValue) (prefix : PrefixValue) (failed : List ℕ) (labels : List (Option Route)) (u k : ℕ) (before more : Findings) →
    LinksSay net prefix failed labels u k before → LinkSays net prefix failed labels u k more → LinksSay net prefix failed labels u (k + 1) (either_of before more)
links_more net prefix failed labels u k before more b m = rw m.both (record {
  among = found_more (λ arc. IsSomeAnd (arrival net prefix failed labels u arc) (λ route. label_at labels u ≡ Some route)) k before.among m.up.among m.down.among b.among m.up_says.among m.down_says.among;
  preferred = found_more (λ arc. IsSomeAnd (arrival net prefix failed labels u arc) (λ route. IsPreferred net (label_at labels u) route)) k before.preferred m.up.preferred m.down.preferred b.preferred m.up_says.preferred m.down_says.preferred;
})

-- ---- candidates and arrivals

both_true : (p q : Bool) → (p && q) ≡ true → (p ≡ true) × (q ≡ true)
both_true true q e = (refl, e)
both_true false q e = absurd (cc)

of_some_if_true : (test : Bool) (o : Option Route) (route : Route) → (if test then o else None) ≡ Some route → (test ≡ true) × (o ≡ Some route)
of_some_if_true true o route e = (refl, e)
of_some_if_true false o route e = absurd (cc)

-- the one router, where there is one
same_is : (o : Option ℕ) (u : ℕ) → same_router o (Some u) ≡ true → unwrap_or o 0 ≡ u
same_is None u e = absurd (cc)
same_is (Some v) u e = eqb-true v u e

carried_from : (net : NetValue) (prefix : PrefixValue) (arc : Arc) (labels : List (Option Route)) (sender : Option ℕ) (route : Route) → carried_label net prefix arc labels sender ≡ Some route →
    (sent : Route) × (label_at labels (unwrap_or sender 0) ≡ Some sent) × (carry_gives net prefix arc sent ≡ Some route)
carried_from net prefix arc labels None route e = absurd (cc)
carried_from net prefix arc labels (Some sender) route e = of_and_then (λ (sent : Route). carry_gives net prefix arc sent) (label_at labels sender) route e

pub from_arrival : (net : NetValue) (prefix : PrefixValue) (failed : List ℕ) (distances : List (Option ℕ)) (labels : List (Option Route)) (u : ℕ) (arc : Arc) (route : Route) → arrival net prefix failed labels u arc ≡ Some route →
    (sent : Route) × Arrives (problem_of net prefix failed distances) labels u arc sent route
unfolding arrival
from_arrival net prefix failed distances labels u arc route e =
    let taken = of_some_if_true (is_into net failed arc u) (carried_label net prefix arc labels (sender_of net arc)) route e in
    let into = both_true (is_up net failed arc) (same_router (receiver_of net arc) (Some u)) taken.0 in
    let from = carried_from net prefix arc labels (sender_of net arc) route taken.1 in
    (from.0, record { up = into.0; to = same_is (receiver_of net arc) u into.1; held = from.1; carried = from.2 })

both_into : (p q : Bool) → p ≡ true → q ≡ true → (p && q) ≡ true
both_into true q e f = f
both_into false q e f = absurd (cc)

taken_if : (test : Bool) (o : Option Route) → test ≡ true → (if test then o else None) ≡ o
taken_if true o e = refl
taken_if false o e = absurd (cc)

same_into : (o : Option ℕ) (v u : ℕ) → o ≡ Some v → unwrap_or o 0 ≡ u → same_router o (Some u) ≡ true
same_into None v u is e = absurd (cc)
same_into (Some w) v u is e = eq-eqb w u e

carried_into : (net : NetValue) (prefix : PrefixValue) (arc : Arc) (labels : List (Option Route)) (sender : Option ℕ) (v : ℕ) (sent route : Route) → sender ≡ Some v →
    label_at labels (unwrap_or sender 0) ≡ Some sent → carry_gives net prefix arc sent ≡ Some route → carried_label net prefix arc labels sender ≡ Some route
carried_into net prefix arc labels None v sent route is held e = absurd (cc)
carried_into net prefix arc labels (Some w) v sent route is held e = ap (λ (o : Option Route). option_and_then (λ (s : Route). carry_gives net prefix arc s) o) held ∙ e

pub to_arrival : (net : NetValue) (prefix : PrefixValue) (failed : List ℕ) (distances : List (Option ℕ)) (labels : List (Option Route)) (u : ℕ) (arc : Arc) (sent route : Route) →
    Arrives (problem_of net prefix failed distances) labels u arc sent route → arrival net prefix failed labels u arc ≡ Some route
unfolding arrival
to_arrival net prefix failed distances labels u arc sent route a =
    let found = up_link net failed arc a.up in
    let receiver : receiver_of net arc ≡ Some (to_end arc.down found.0).router = ap (λ (o : Option Link). option_map (λ (l : Link). (to_end arc.down l).router) o) found.1 in
    let sender : sender_of net arc ≡ Some (from_end arc.down found.0).router = ap (λ (o : Option Link). option_map (λ (l : Link). (from_end arc.down l).router) o) found.1 in
    taken_if (is_into net failed arc u) (carried_label net prefix arc labels (sender_of net arc))
    (both_into (is_up net failed arc) (same_router (receiver_of net arc) (Some u)) a.up (same_into (receiver_of net arc) (to_end arc.down found.0).router u receiver a.to)) ∙
    carried_into net prefix arc labels (sender_of net arc) (from_end arc.down found.0).router sent route sender a.held a.carried

-- ---- the local route

may_from : (owner learned : Bool) → (owner || not learned) ≡ true → (owner ≡ true) ⊎ (learned ≡ false)
may_from true learned e = inl refl
may_from false true e = absurd (cc)
may_from false false e = inr refl

may_into : (owner learned : Bool) → (owner ≡ true) ⊎ (learned ≡ false) → (owner || not learned) ≡ true
may_into true learned m = refl
may_into false false m = refl
may_into false true (inl e) = absurd (cc)
may_into false true (inr e) = absurd (cc)

pub from_local : (net : NetValue) (prefix : PrefixValue) (failed : List ℕ) (distances : List (Option ℕ)) (labels : List (Option Route)) (u : ℕ) (route : Route) → local_candidate net prefix distances labels u ≡ Some route →
    IsLocalCandidate (problem_of net prefix failed distances) labels u route
unfolding local_candidate
from_local net prefix failed distances labels u route e =
    let taken = of_some_if_true (owns net u prefix || not (is_learned (label_at labels u))) (local_of net prefix u (distance_at distances u)) route e in
    record { local = taken.1; may = may_from (owns net u prefix) (is_learned (label_at labels u)) taken.0 }

pub to_local : (net : NetValue) (prefix : PrefixValue) (failed : List ℕ) (distances : List (Option ℕ)) (labels : List (Option Route)) (u : ℕ) (route : Route) →
    IsLocalCandidate (problem_of net prefix failed distances) labels u route → local_candidate net prefix distances labels u ≡ Some route
unfolding local_candidate
to_local net prefix failed distances labels u route c =
    taken_if (owns net u prefix || not (is_learned (label_at labels u))) (local_of net prefix u (distance_at distances u)) (may_into (owns net u prefix) (is_learned (label_at labels u)) c.may) ∙ c.local

-- ---- all candidates

some_and : (property : Route → Type 0) (o : Option Route) → IsSomeAnd o property → (route : Route) × (o ≡ Some route) × property route
some_and property None h = absurd (h)
some_and property (Some route) h = (route, refl, h)

and_some : (property : Route → Type 0) (o : Option Route) (route : Route) → o ≡ Some route → property route → IsSomeAnd o property
and_some property o route e p = subst (λ (x : Option Route). IsSomeAnd x property) (sym e) p

all_found : (net : NetValue) → IsNet net → (prefix : PrefixValue) (failed : List ℕ) (distances : List (Option ℕ)) (labels : List (Option Route)) (u : ℕ) (property : Route → Type 0) (found own : Bool) →
    IsFound (λ arc. IsSomeAnd (arrival net prefix failed labels u arc) property) (length net.links) found → (IsTrue own ↔ IsSomeAnd (local_candidate net prefix distances labels u) property) →
    IsTrue (found || own) ↔ ((route : Route) × IsCandidate (problem_of net prefix failed distances) labels u route × property route)
all_found net valid prefix failed distances labels u property found own f o = (there, here) where
  there : IsTrue (found || own) → (route : Route) × IsCandidate (problem_of net prefix failed distances) labels u route × property route
  there t = elim (either_true found own t) [
    | inl far ↦
        let h = f.is.0 far in
        let r = some_and property (arrival net prefix failed labels u h.0) h.2 in
        let a = from_arrival net prefix failed distances labels u h.0 r.0 r.1 in
        (r.0, inl (h.0, a.0, a.1), r.2)
    | inr near ↦
        let r = some_and property (local_candidate net prefix distances labels u) (o.0 near) in
        (r.0, inr (from_local net prefix failed distances labels u r.0 r.1), r.2)
  ]

  here : (route : Route) × IsCandidate (problem_of net prefix failed distances) labels u route × property route → IsTrue (found || own)
  here (route, candidate, p) = elim candidate [
    | inl (arc, sent, a) ↦ left_true found own (f.is.1 (
      arc,
      (networks_route net prefix failed distances valid).link arc a.up,
      and_some property (arrival net prefix failed labels u arc) route (to_arrival net prefix failed distances labels u arc sent route a) p,
    ))
    | inr c ↦ right_true found own (o.1 (and_some property (local_candidate net prefix distances labels u) route (to_local net prefix failed distances labels u route c) p))
  ]

pub all_say : (net : NetValue) → IsNet net → (prefix : PrefixValue) (failed : List ℕ) (distances : List (Option ℕ)) (labels : List (Option Route)) (u : ℕ) (learned own : Findings) →
    LinksSay net prefix failed labels u (length net.links) learned → Says net (label_at labels u) (local_candidate net prefix distances labels u) own →
    AllSay net (problem_of net prefix failed distances) labels u (either_of learned own)
all_say net valid prefix failed distances labels u learned own f o = record {
  among = all_found net valid prefix failed distances labels u (λ route. label_at labels u ≡ Some route) learned.among own.among f.among o.among;
  preferred = all_found net valid prefix failed distances labels u (λ route. IsPreferred net (label_at labels u) route) learned.preferred own.preferred f.preferred o.preferred;
}

-- ---- whether the label stands

and_true : (a b : Bool) → IsTrue a → IsTrue b → IsTrue (a && b)
and_true true b s t = t
and_true false b s t = absurd (cc)

and_parts : (a b : Bool) → IsTrue (a && b) → IsTrue a × IsTrue b
and_parts true b t = (refl, t)
and_parts false b t = absurd (cc)

not_true : (b : Bool) → (IsTrue b → ⊥) → IsTrue (not b)
not_true true h = absurd (h refl)
not_true false h = refl

true_not : (b : Bool) → IsTrue (not b) → IsTrue b → ⊥
true_not true t h = cc
true_not false t h = cc

not_better : (b : Bool) → (b ≡ true → ⊥) → b ≡ false
not_better true h = absurd (h refl)
not_better false h = refl

choice : (net : NetValue) (prefix : PrefixValue) (failed : List ℕ) (distances : List (Option ℕ)) (labels : List (Option Route)) (u : ℕ) (findings : Findings) (label : Option Route) →
    (IsTrue findings.among ↔ ((route : Route) × IsCandidate (problem_of net prefix failed distances) labels u route × (label ≡ Some route))) →
    (IsTrue findings.preferred ↔ ((route : Route) × IsCandidate (problem_of net prefix failed distances) labels u route × IsPreferred net label route)) →
    IsTrue (stands label findings) ↔ IsChoice (problem_of net prefix failed distances) labels u label
choice net prefix failed distances labels u findings None a p = (
  (λ t route candidate. true_not findings.preferred t (p.1 (route, candidate, tt))),
  (λ none. not_true findings.preferred (λ t. let h = p.0 t in none h.0 h.1)),
)
choice net prefix failed distances labels u findings (Some label) a p = (there, here) where
  there : IsTrue (findings.among && not findings.preferred) → IsBest (problem_of net prefix failed distances) labels u label
  there t =
      let both = and_parts findings.among (not findings.preferred) t in
      let h = a.0 both.0 in
      let same : h.0 ≡ label = cc (h.2) in
      record {
        candidate = subst (λ (r : Route). IsCandidate (problem_of net prefix failed distances) labels u r) same h.1;
        best = λ other candidate. not_better (is_better net other label) (λ e. true_not findings.preferred both.1 (p.1 (other, candidate, e)));
      }

  here : IsBest (problem_of net prefix failed distances) labels u label → IsTrue (findings.among && not findings.preferred)
  here best = and_true findings.among (not findings.preferred) (a.1 (label, best.candidate, refl))
      (not_true findings.preferred (λ t. let h = p.0 t in let off = best.best h.0 h.1 in absurd (cc (off, h.2))))

pub label_stands : (net : NetValue) (prefix : PrefixValue) (failed : List ℕ) (distances : List (Option ℕ)) (labels : List (Option Route)) (u : ℕ) (findings : Findings) →
    AllSay net (problem_of net prefix failed distances) labels u findings → IsTrue (stands (label_at labels u) findings) ↔ IsStableAt (problem_of net prefix failed distances) labels u
label_stands net prefix failed distances labels u findings all = choice net prefix failed distances labels u findings (label_at labels u) all.among all.preferred
