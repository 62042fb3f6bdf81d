-- Where a view that tells truly of a stable labelling implies a property, every forwarding walk has it.
use Rattle.std.proofs.Common.{ℕ, zero, suc, ◌≡◌, ◌≢◌, ◌+◌, ◌-◌, ◌*◌, ◌<◌, ◌≤◌, ◌==◌, ◌&&◌, ◌||◌, not, ◌⊎◌, inl, inr, Bool, true, false, List, [], ◌∷◌, length, Option, Some, None, Contains, unwrap_or, arith, ap, sym, subst, ◌∙◌, refl}
use Rattle.std.specs.Option.{option_map}
use Rattle.std.proofs.lemmas.Bool.Decides.{nat_tests}
use Rattle.net_types.specs.declared.arcs.Arc.{Arc}
use Rattle.net_types.specs.declared.network.Link.{Link}
use Rattle.net_types.specs.declared.routes.Route.{Route}
use Rattle.net_types.specs.declared.routes.Source.{Source}
use Rattle.net_types.specs.declared.routes.Source.TheVariants.{Local, Learned}
use Rattle.net_types.specs.Arcs.{from_end, receiver_of, sender_of}
use Rattle.net_types.specs.Distance.{AreDistances, HasHop, distance_at}
use Rattle.net_types.specs.NetFacts.{IsNet}
use Rattle.net_types.specs.NetValue.{NetValue}
use Rattle.net_types.specs.Owners.{owns}
use Rattle.net_types.specs.PrefixValue.{PrefixValue}
use Rattle.net_types.specs.Routes.{is_on}
use Rattle.ospf_paths.proofs.LawLemmas.{far_routers_hop, tight_arcs_approach, within, within_few, within_less, within_some}
use Rattle.concrete_algebra.specs.Chains.{ComesFrom, IsChain}
use Rattle.concrete_algebra.specs.Laws.{IsRouting}
use Rattle.concrete_algebra.specs.Problem.{Problem, problem_of}
use Rattle.concrete_algebra.specs.Stability.{Arrives, IsStable, comes_over_arc, is_learned, label_at}
use Rattle.concrete_algebra.proofs.ChainLemmas.{chains_are_short, labels_have_chains, paths_are_chains}
use Rattle.concrete_algebra.proofs.RoutingLemmas.{networks_route, up_link}
use Rattle.property_book.specs.Forwarding.{Forwards, GoesThrough, IsForwardWalk, IsIsolated, Reaches, last_of}
use Rattle.property_book.proofs.StepLemmas.{came, learned_go_back, learned_go_to_senders, learned_over, next_is_router, others_go_by_hops}
use Rattle.implication.specs.View.{View, owners_plain, surely_learned}
use Rattle.implication.specs.Closed.{IsMember}
use Rattle.implication.specs.Implied.{HasSureRoute, IsIsolationImplied, IsReachImplied, IsSolid, IsWaypointImplied, reach_leads, waypoint_leads}
use Rattle.implication.proofs.SetLemmas.{every_at, off, true_or_false}

-- a stable labelling, and a view that tells truly of it
pub record Tells (view : View) (net : NetValue) (prefix : PrefixValue) (failed : List ℕ) (ds : List (Option ℕ)) (labels : List (Option Route)) : Type 0 where
  pub valid : IsNet net
  pub are : AreDistances net prefix failed ds
  pub stable : IsStable (problem_of net prefix failed ds) labels
  pub count : view.count ≡ length net.routers
  pub owner : (u : ℕ) → view.owner u ≡ owns net u prefix
  pub learned : (u v : ℕ) (route : Route) (arc : Arc) → u < length net.routers → label_at labels u ≡ Some route → route.source ≡ Learned arc → sender_of net arc ≡ Some v →
      (view.may_learn u ≡ true) × (view.back u v ≡ true)
  pub local : (u : ℕ) (route : Route) → u < length net.routers → label_at labels u ≡ Some route → route.source ≡ Local → view.may_local u ≡ true
  pub held : (u : ℕ) → view.certain u ≡ true → (route : Route) × (label_at labels u ≡ Some route)
  pub must : (u w : ℕ) (route : Route) → view.must_have u w ≡ true → label_at labels u ≡ Some route → is_on w route.path ≡ true
  pub far : (u : ℕ) → view.has_distance u ≡ true → (distance : ℕ) × (distance_at ds u ≡ Some distance)
  pub near : (u : ℕ) → view.has_distance u ≡ false → distance_at ds u ≡ None
  pub hop : (u v : ℕ) → HasHop net prefix failed ds u v → view.hop u v ≡ true

-- ---- members

pub member_start : (leads : ℕ → ℕ → Bool) (start : ℕ) → IsMember leads start start
member_start leads start = λ set closed. closed.begins

pub member_on : (leads : ℕ → ℕ → Bool) (start u v : ℕ) → IsMember leads start u → leads u v ≡ true → IsMember leads start v
member_on leads start u v is on = λ set closed. closed.goes_on u v (is set closed) on

reach_on : (view : View) (u v : ℕ) → view.owner u ≡ false → view.back u v ≡ true → reach_leads view u v ≡ true
reach_on view u v not_owner back = from_tests (view.owner u) (view.back u v) not_owner back where
  from_tests : (a b : Bool) → a ≡ false → b ≡ true → (not a && b) ≡ true
  from_tests a b h i = grind (arith, nat_tests)

around : (a b c d e f : Bool) → a ≡ false → b ≡ false → ((c ≡ true) × (d ≡ false)) ⊎ ((e ≡ false) × (f ≡ true)) → (not a && not b && ((c && not d) || (not e && f))) ≡ true
around a b c d e f h i (inl j) = let p = j.0 in let q = j.1 in grind (arith, nat_tests)
around a b c d e f h i (inr j) = let p = j.0 in let q = j.1 in grind (arith, nat_tests)

not_same : (u w : ℕ) → u ≢ w → (u == w) ≡ false
not_same u w h = grind (arith, nat_tests)

back_around : (view : View) (via u v : ℕ) → u ≢ via → view.owner u ≡ false → view.back u v ≡ true → (owners_plain view && view.must_have u via) ≡ false → waypoint_leads view via u v ≡ true
back_around view via u v other not_owner back elsewhere = around (u == via) (view.owner u) (view.back u v) (owners_plain view && view.must_have u via) (surely_learned view u) (view.hop u v) (not_same u via other) not_owner (inl (back, elsewhere))

hop_around : (view : View) (via u v : ℕ) → u ≢ via → view.owner u ≡ false → surely_learned view u ≡ false → view.hop u v ≡ true → waypoint_leads view via u v ≡ true
hop_around view via u v other not_owner unsure hop = around (u == via) (view.owner u) (view.back u v) (owners_plain view && view.must_have u via) (surely_learned view u) (view.hop u v) (not_same u via other) not_owner (inr (unsure, hop))

-- a solid router is an owner, or cannot learn, has a distance and only solid hops
pub solid_case : (view : View) (u : ℕ) → IsSolid view u → (view.owner u ≡ true) ⊎ ((view.may_learn u ≡ false) × (view.has_distance u ≡ true) × ((v : ℕ) → view.hop u v ≡ true → IsSolid view v))
solid_case view u (set, solid, h) = elim (solid.each u h) [
  | inl owner ↦ inl owner
  | inr rest ↦ inr (rest.0, rest.1, λ v hop. (set, solid, rest.2 v hop))
]

-- ---- labels

-- a router that may not learn holds no learned label
pub not_learned : (view : View) (net : NetValue) (prefix : PrefixValue) (failed : List ℕ) (ds : List (Option ℕ)) (labels : List (Option Route)) → Tells view net prefix failed ds labels →
    (u : ℕ) → u < length net.routers → view.may_learn u ≡ false → is_learned (label_at labels u) ≡ false
not_learned view net prefix failed ds labels tells u low cannot = elim (true_or_false (is_learned (label_at labels u))) [
  | inl learned ↦ (
      let l = learned_over (label_at labels u) learned in
      let c = came net tells.valid prefix failed ds labels u l.0 l.1 tells.stable low l.2 l.3 in
      let e = up_link net failed l.1 c.1.up in
      let from : sender_of net l.1 ≡ Some (from_end l.1.down e.0).router = ap (λ (o : Option Link). option_map (λ (link : Link). (from_end l.1.down link).router) o) e.1 in
      absurd (off (view.may_learn u) (tells.learned u (from_end l.1.down e.0).router l.0 l.1 low l.2 l.3 from).0 cannot))
  | inr not_so ↦ not_so
]

sure_by : (a b c : Bool) → (a && not b && not c) ≡ true → (a ≡ true) × (b ≡ false)
sure_by a b c h = (grind (arith, nat_tests), grind (arith, nat_tests))

-- who surely learned holds a learned label
learned_if_sure : (view : View) (net : NetValue) (prefix : PrefixValue) (failed : List ℕ) (ds : List (Option ℕ)) (labels : List (Option Route)) → Tells view net prefix failed ds labels →
    (u : ℕ) → u < length net.routers → surely_learned view u ≡ true → is_learned (label_at labels u) ≡ true
learned_if_sure view net prefix failed ds labels tells u low sure =
    let by = sure_by (view.certain u) (view.may_local u) (view.owner u) sure in
    let h = tells.held u by.0 in
    ap is_learned h.1 ∙ by_source h.0 h.1 by.1 h.0.source refl where
      by_source : (route : Route) → label_at labels u ≡ Some route → view.may_local u ≡ false → (s : Source) → route.source ≡ s → comes_over_arc route.source ≡ true
      by_source route held not_so Local is = absurd (off (view.may_local u) (tells.local u route low held is) not_so)
      by_source route held not_so (Learned arc) is = ap comes_over_arc is

unsure : (view : View) (net : NetValue) (prefix : PrefixValue) (failed : List ℕ) (ds : List (Option ℕ)) (labels : List (Option Route)) → Tells view net prefix failed ds labels →
    (u : ℕ) → u < length net.routers → is_learned (label_at labels u) ≡ false → surely_learned view u ≡ false
unsure view net prefix failed ds labels tells u low unlearned = elim (true_or_false (surely_learned view u)) [
  | inl sure ↦ absurd (off (is_learned (label_at labels u)) (learned_if_sure view net prefix failed ds labels tells u low sure) unlearned)
  | inr not_so ↦ not_so
]

-- ---- one step

-- the router's label came from the next one: there is a step back, and chains grow by it
record GoesBack (view : View) (net : NetValue) (prefix : PrefixValue) (failed : List ℕ) (ds : List (Option ℕ)) (labels : List (Option Route)) (u v : ℕ) : Type 0 where
  route : Route
  held : label_at labels u ≡ Some route
  back : view.back u v ≡ true
  arc : Arc
  over : route.source ≡ Learned arc
  longer : (chain : List ℕ) (sent : Route) → IsChain (problem_of net prefix failed ds) labels chain v sent → IsChain (problem_of net prefix failed ds) labels (v ∷ chain) u route

same_route : (a b : Route) (o : Option Route) → o ≡ Some a → o ≡ Some b → a ≡ b
same_route a b o e f = unwrap a b (sym e ∙ f) where
  unwrap : (x y : Route) → Some x ≡ Some y → x ≡ y
  unwrap x y h = cc

chain_held : (problem : Problem) (labels : List (Option Route)) (chain : List ℕ) (u : ℕ) (route : Route) → IsChain problem labels chain u route → label_at labels u ≡ Some route
chain_held problem labels [] u route h = h.0
chain_held problem labels (v ∷ chain) u route (sent, l, h) = l.held

goes_back : (view : View) (net : NetValue) (prefix : PrefixValue) (failed : List ℕ) (ds : List (Option ℕ)) (labels : List (Option Route)) → Tells view net prefix failed ds labels →
    (u v : ℕ) → u < length net.routers → is_learned (label_at labels u) ≡ true → Forwards net prefix failed ds labels u v → GoesBack view net prefix failed ds labels u v
goes_back view net prefix failed ds labels tells u v low learned forwards =
    let l = learned_over (label_at labels u) learned in
    let c = came net tells.valid prefix failed ds labels u l.0 l.1 tells.stable low l.2 l.3 in
    let from = (learned_go_to_senders net prefix failed ds labels u v l.0 l.1 forwards.no_owner l.2 l.3).0 forwards in
    let at : unwrap_or (sender_of net l.1) 0 ≡ v = ap (λ (o : Option ℕ). unwrap_or o 0) from in
    let sends : label_at labels v ≡ Some c.0 = subst (λ (x : ℕ). label_at labels x ≡ Some c.0) at c.1.held in
    record {
      route = l.0;
      held = l.2;
      back = (tells.learned u v l.0 l.1 low l.2 l.3 from).1;
      arc = l.1;
      over = l.3;
      longer = λ chain sent is. (
        sent,
        record {
          arc = l.1;
          up = c.1.up;
          to = c.1.to;
          from = at;
          held = l.2;
          carried = subst (λ (r : Route). (problem_of net prefix failed ds).carry l.1 r ≡ Some l.0) (same_route c.0 sent (label_at labels v) sends (chain_held (problem_of net prefix failed ds) labels chain v sent is)) c.1.carried;
        },
        is,
      );
    }

-- a hop: the next router is nearer
record GoesNear (view : View) (net : NetValue) (prefix : PrefixValue) (failed : List ℕ) (ds : List (Option ℕ)) (u v : ℕ) : Type 0 where
  hop : view.hop u v ≡ true
  near : ℕ
  far : ℕ
  near_is : distance_at ds u ≡ Some near
  far_is : distance_at ds v ≡ Some far
  less : far < near

goes_near : (view : View) (net : NetValue) (prefix : PrefixValue) (failed : List ℕ) (ds : List (Option ℕ)) (labels : List (Option Route)) → Tells view net prefix failed ds labels →
    (u v : ℕ) → is_learned (label_at labels u) ≡ false → Forwards net prefix failed ds labels u v → GoesNear view net prefix failed ds u v
goes_near view net prefix failed ds labels tells u v unlearned forwards =
    let hop = (others_go_by_hops net prefix failed ds labels u v unlearned).0 forwards in
    let t = hop.1.tight in
    record {
      hop = tells.hop u v hop;
      near = t.cost + t.distance;
      far = t.distance;
      near_is = t.near;
      far_is = t.far;
      less = tight_arcs_approach net failed ds hop.0 u v (t.cost + t.distance) t.distance tells.valid t t.near t.far;
    }

-- a router that has a distance and no learned label goes on
goes_on : (view : View) (net : NetValue) (prefix : PrefixValue) (failed : List ℕ) (ds : List (Option ℕ)) (labels : List (Option Route)) → Tells view net prefix failed ds labels →
    (u : ℕ) → is_learned (label_at labels u) ≡ false → view.has_distance u ≡ true → owns net u prefix ≡ false → (v : ℕ) × Forwards net prefix failed ds labels u v
goes_on view net prefix failed ds labels tells u unlearned has other =
    let d = tells.far u has in
    let hop = far_routers_hop net prefix failed ds tells.valid tells.are u d.0 d.1 other in
    (hop.0, (others_go_by_hops net prefix failed ds labels u hop.0 unlearned).1 hop.1)

-- ---- walks from solid routers

unwrap : (a b : ℕ) → Some a ≡ Some b → a ≡ b
unwrap a b h = cc

-- the walk goes on
solid_goes_on : (view : View) (net : NetValue) (prefix : PrefixValue) (failed : List ℕ) (ds : List (Option ℕ)) (labels : List (Option Route)) → Tells view net prefix failed ds labels →
    (walk : List ℕ) (u : ℕ) → u < length net.routers → IsSolid view u → IsForwardWalk net prefix failed ds labels u walk → owns net (last_of u walk) prefix ≡ false →
    (v : ℕ) × Forwards net prefix failed ds labels (last_of u walk) v
solid_goes_on view net prefix failed ds labels tells [] u low is w other = elim (solid_case view u is) [
  | inl owner ↦ absurd (off (owns net u prefix) (sym (tells.owner u) ∙ owner) other)
  | inr s ↦ goes_on view net prefix failed ds labels tells u (not_learned view net prefix failed ds labels tells u low s.0) s.1 other
]
solid_goes_on view net prefix failed ds labels tells (v ∷ more) u low is w other = elim (solid_case view u is) [
  | inl owner ↦ absurd (off (owns net u prefix) (sym (tells.owner u) ∙ owner) w.0.no_owner)
  | inr s ↦ (
      let n = goes_near view net prefix failed ds labels tells u v (not_learned view net prefix failed ds labels tells u low s.0) w.0 in
      solid_goes_on view net prefix failed ds labels tells more v (next_is_router net tells.valid prefix failed ds labels u v w.0) (s.2 v n.hop) w.1 other)
]

-- and has fewer steps than there are routers no farther than its first
solid_short : (view : View) (net : NetValue) (prefix : PrefixValue) (failed : List ℕ) (ds : List (Option ℕ)) (labels : List (Option Route)) → Tells view net prefix failed ds labels →
    (walk : List ℕ) (u d : ℕ) → u < length net.routers → IsSolid view u → distance_at ds u ≡ Some d → IsForwardWalk net prefix failed ds labels u walk → length walk + 1 ≤ within d ds
solid_short view net prefix failed ds labels tells [] u d low is at w = let c = within_some ds u d at in omega arith
solid_short view net prefix failed ds labels tells (v ∷ more) u d low is at w = elim (solid_case view u is) [
  | inl owner ↦ absurd (off (owns net u prefix) (sym (tells.owner u) ∙ owner) w.0.no_owner)
  | inr s ↦ (
      let n = goes_near view net prefix failed ds labels tells u v (not_learned view net prefix failed ds labels tells u low s.0) w.0 in
      let same : d ≡ n.near = unwrap d n.near (sym at ∙ n.near_is) in
      let less : n.far < d = (let l = n.less in omega arith) in
      let i = solid_short view net prefix failed ds labels tells more v n.far (next_is_router net tells.valid prefix failed ds labels u v w.0) (s.2 v n.hop) n.far_is w.1 in
      let m = within_less ds u n.far d at less in
      omega arith)
]

-- ---- reach

reach_goes_on : (view : View) (net : NetValue) (prefix : PrefixValue) (failed : List ℕ) (ds : List (Option ℕ)) (labels : List (Option Route)) → Tells view net prefix failed ds labels →
    (start : ℕ) → IsReachImplied view start → (walk : List ℕ) (u : ℕ) → u < length net.routers → IsMember (reach_leads view) start u → IsForwardWalk net prefix failed ds labels u walk →
    owns net (last_of u walk) prefix ≡ false → (v : ℕ) × Forwards net prefix failed ds labels (last_of u walk) v
reach_goes_on view net prefix failed ds labels tells start implied [] u low is w other = elim (true_or_false (is_learned (label_at labels u))) [
  | inl learned ↦ (learned_go_back net prefix failed ds labels u tells.valid tells.stable low other learned).0
  | inr unlearned ↦ elim (implied u is) [
    | inl owner ↦ absurd (off (owns net u prefix) (sym (tells.owner u) ∙ owner) other)
    | inr (inl fine) ↦ goes_on view net prefix failed ds labels tells u unlearned fine.0 other
    | inr (inr sure) ↦ absurd (off (is_learned (label_at labels u)) (learned_if_sure view net prefix failed ds labels tells u low sure) unlearned)
  ]
]
reach_goes_on view net prefix failed ds labels tells start implied (v ∷ more) u low is w other =
    let next = next_is_router net tells.valid prefix failed ds labels u v w.0 in
    elim (true_or_false (is_learned (label_at labels u))) [
      | inl learned ↦ (
          let b = goes_back view net prefix failed ds labels tells u v low learned w.0 in
          reach_goes_on view net prefix failed ds labels tells start implied more v next
          (member_on (reach_leads view) start u v is (reach_on view u v (tells.owner u ∙ w.0.no_owner) b.back)) w.1 other)
      | inr unlearned ↦ elim (implied u is) [
        | inl owner ↦ absurd (off (owns net u prefix) (sym (tells.owner u) ∙ owner) w.0.no_owner)
        | inr (inl fine) ↦ (
            let n = goes_near view net prefix failed ds labels tells u v unlearned w.0 in
            solid_goes_on view net prefix failed ds labels tells more v next (fine.1 v n.hop) w.1 other)
        | inr (inr sure) ↦ absurd (off (is_learned (label_at labels u)) (learned_if_sure view net prefix failed ds labels tells u low sure) unlearned)
      ]
    ]

local_learned : (s : Source) (arc : Arc) → s ≡ Local → s ≡ Learned arc → ⊥
local_learned s arc e f = cc

-- a learned label has a chain with a sender
has_sender : (problem : Problem) → IsRouting problem → (labels : List (Option Route)) (chain : List ℕ) (u : ℕ) (route : Route) (arc : Arc) → IsChain problem labels chain u route → route.source ≡ Learned arc → 1 ≤ length chain
has_sender problem net labels [] u route arc h learned = absurd (local_learned route.source arc (net.local u route h.1).source learned)
has_sender problem net labels (v ∷ chain) u route arc h learned = omega arith

-- with chains of the present router of at most k senders, a walk has fewer than k + n steps
reach_short : (view : View) (net : NetValue) (prefix : PrefixValue) (failed : List ℕ) (ds : List (Option ℕ)) (labels : List (Option Route)) → Tells view net prefix failed ds labels →
    (start : ℕ) → IsReachImplied view start → (walk : List ℕ) (u k : ℕ) → u < length net.routers → IsMember (reach_leads view) start u →
    ((chain : List ℕ) (route : Route) → IsChain (problem_of net prefix failed ds) labels chain u route → length chain ≤ k) →
    IsForwardWalk net prefix failed ds labels u walk → length walk < k + length net.routers
reach_short view net prefix failed ds labels tells start implied [] u k low is bound w = omega arith
reach_short view net prefix failed ds labels tells start implied (v ∷ more) u k low is bound w =
    let next = next_is_router net tells.valid prefix failed ds labels u v w.0 in
    elim (true_or_false (is_learned (label_at labels u))) [
      | inl learned ↦ (
          let b = goes_back view net prefix failed ds labels tells u v low learned w.0 in
          let routing = networks_route net prefix failed ds tells.valid in
          let h = labels_have_chains (problem_of net prefix failed ds) labels routing tells.stable u b.route low b.held in
          let one : 1 ≤ k = let a = has_sender (problem_of net prefix failed ds) routing labels h.0 u b.route b.arc h.1 b.over in let c = bound h.0 b.route h.1 in omega arith in
          let i = reach_short view net prefix failed ds labels tells start implied more v (k - 1) next
          (member_on (reach_leads view) start u v is (reach_on view u v (tells.owner u ∙ w.0.no_owner) b.back))
          (λ chain sent c. let l = bound (v ∷ chain) b.route (b.longer chain sent c) in omega arith) w.1 in
          omega arith)
      | inr unlearned ↦ elim (implied u is) [
        | inl owner ↦ absurd (off (owns net u prefix) (sym (tells.owner u) ∙ owner) w.0.no_owner)
        | inr (inl fine) ↦ (
            let n = goes_near view net prefix failed ds labels tells u v unlearned w.0 in
            let i = solid_short view net prefix failed ds labels tells more v n.far next (fine.1 v n.hop) n.far_is w.1 in
            let m = within_less ds u n.far n.near n.near_is n.less in
            let f = within_few n.near ds in
            let a : length ds ≡ length net.routers = tells.are.long in
            omega arith)
        | inr (inr sure) ↦ absurd (off (is_learned (label_at labels u)) (learned_if_sure view net prefix failed ds labels tells u low sure) unlearned)
      ]
    ]

pub reach_holds : (view : View) (net : NetValue) (prefix : PrefixValue) (failed : List ℕ) (ds : List (Option ℕ)) (labels : List (Option Route)) → Tells view net prefix failed ds labels →
    (start : ℕ) → start < length net.routers → IsReachImplied view start → Reaches net prefix failed ds labels start
reach_holds view net prefix failed ds labels tells start low implied = record {
  not_stuck = λ walk w other. reach_goes_on view net prefix failed ds labels tells start implied walk start low (member_start (reach_leads view) start) w other;
  soon = λ walk w other. (
      let i = reach_short view net prefix failed ds labels tells start implied walk start (length net.routers - 1) low (member_start (reach_leads view) start)
      (λ chain route h. let e : length chain < length net.routers = chains_are_short (problem_of net prefix failed ds) labels (networks_route net prefix failed ds tells.valid) chain start route low h in omega arith) w in
      omega arith);
}

-- ---- isolated

pub isolation_holds : (view : View) (net : NetValue) (prefix : PrefixValue) (failed : List ℕ) (ds : List (Option ℕ)) (labels : List (Option Route)) → Tells view net prefix failed ds labels →
    (start : ℕ) → start < length net.routers → IsIsolationImplied view start → IsIsolated net prefix ds labels start
isolation_holds view net prefix failed ds labels tells start low implied = record {
  no_owner = sym (tells.owner start) ∙ implied.no_owner;
  not_learned = not_learned view net prefix failed ds labels tells start low implied.cannot_learn;
  no_distance = tells.near start implied.no_distance;
}

-- ---- waypoint

first_or_later : (x v : ℕ) (chain : List ℕ) → is_on x (v ∷ chain) ≡ true → (x ≡ v) ⊎ (is_on x chain ≡ true)
first_or_later x v chain h = grind (arith, nat_tests)

on_first : (x v : ℕ) (walk : List ℕ) → x ≡ v → is_on x (v ∷ walk) ≡ true
on_first x v walk h = grind (arith, nat_tests)

on_later : (x v : ℕ) (walk : List ℕ) → is_on x walk ≡ true → is_on x (v ∷ walk) ≡ true
on_later x v walk h = grind (arith, nat_tests)

-- no owner holds a learned label
abbrev Plain : NetValue → PrefixValue → List (Option Route) → Type 0
Plain net prefix labels = (x : ℕ) → x < length net.routers → owns net x prefix ≡ true → is_learned (label_at labels x) ≡ false

-- the first step of a chain is that of traffic
record Steps (net : NetValue) (labels : List (Option Route)) (u v : ℕ) : Type 0 where
  learned : is_learned (label_at labels u) ≡ true
  route : Route
  arc : Arc
  held : label_at labels u ≡ Some route
  over : route.source ≡ Learned arc
  from : unwrap_or (sender_of net arc) 0 ≡ v

chain_steps : (net : NetValue) (prefix : PrefixValue) (failed : List ℕ) (ds : List (Option ℕ)) → IsNet net → (labels : List (Option Route)) (u v : ℕ) (route sent : Route) →
    ComesFrom (problem_of net prefix failed ds) labels u v route sent → Steps net labels u v
chain_steps net prefix failed ds valid labels u v route sent l =
    let source = ((networks_route net prefix failed ds valid).carried l.arc sent route l.up l.carried).source in
    record { learned = ap is_learned l.held ∙ ap comes_over_arc source; route = route; arc = l.arc; held = l.held; over = source; from = l.from }

-- a walk that ends at an owner goes over the whole chain of its first router
over_chain : (net : NetValue) (prefix : PrefixValue) (failed : List ℕ) (ds : List (Option ℕ)) → IsNet net → (labels : List (Option Route)) → Plain net prefix labels →
    (chain walk : List ℕ) (u : ℕ) (route : Route) → u < length net.routers → IsChain (problem_of net prefix failed ds) labels chain u route → IsForwardWalk net prefix failed ds labels u walk →
    owns net (last_of u walk) prefix ≡ true → (x : ℕ) → is_on x chain ≡ true → is_on x walk ≡ true
over_chain net prefix failed ds valid labels plain [] walk u route low h w owner x on = absurd (cc)
over_chain net prefix failed ds valid labels plain (y ∷ chain) [] u route low (sent, l, h) w owner x on =
    absurd (off (is_learned (label_at labels u)) (chain_steps net prefix failed ds valid labels u y route sent l).learned (plain u low owner))
over_chain net prefix failed ds valid labels plain (y ∷ chain) (z ∷ more) u route low (sent, l, h) w owner x on =
    let s = chain_steps net prefix failed ds valid labels u y route sent l in
    let from = (learned_go_to_senders net prefix failed ds labels u z s.route s.arc w.0.no_owner s.held s.over).0 w.0 in
    let same : y ≡ z = sym s.from ∙ ap (λ (o : Option ℕ). unwrap_or o 0) from in
    elim (first_or_later x y chain on) [
      | inl first ↦ on_first x z more (first ∙ same)
      | inr later ↦ on_later x z more (over_chain net prefix failed ds valid labels plain chain more z sent (next_is_router net valid prefix failed ds labels u z w.0)
          (subst (λ (n : ℕ). IsChain (problem_of net prefix failed ds) labels chain n sent) same h) w.1 owner x later)
    ]

not_and_of : (a b : Bool) → not (a && b) ≡ true → a ≡ true → b ≡ false
not_and_of a b h i = grind (arith, nat_tests)

and_left : (a b : Bool) → (a && b) ≡ true → a ≡ true
and_left a b h = grind (arith, nat_tests)

and_right : (a b : Bool) → (a && b) ≡ true → b ≡ true
and_right a b h = grind (arith, nat_tests)

plain_owners : (view : View) (net : NetValue) (prefix : PrefixValue) (failed : List ℕ) (ds : List (Option ℕ)) (labels : List (Option Route)) → Tells view net prefix failed ds labels →
    owners_plain view ≡ true → Plain net prefix labels
plain_owners view net prefix failed ds labels tells plain x low owner =
    not_learned view net prefix failed ds labels tells x low
    (not_and_of (view.owner x) (view.may_learn x) (every_at view.count (λ u. not (view.owner u && view.may_learn u)) plain x (let e = tells.count in omega arith)) (tells.owner x ∙ owner))

here : (x y : ℕ) → (x ≡ y) ⊎ (x ≢ y)
here x y = grind arith

visits : (view : View) (net : NetValue) (prefix : PrefixValue) (failed : List ℕ) (ds : List (Option ℕ)) (labels : List (Option Route)) → Tells view net prefix failed ds labels →
    (via start : ℕ) → IsWaypointImplied view via start → (walk : List ℕ) (u : ℕ) → u < length net.routers → IsMember (waypoint_leads view via) start u →
    IsForwardWalk net prefix failed ds labels u walk → owns net (last_of u walk) prefix ≡ true → is_on via (u ∷ walk) ≡ true
visits view net prefix failed ds labels tells via start implied [] u low is w owner = on_first via u [] (sym (implied u is (tells.owner u ∙ owner)))
visits view net prefix failed ds labels tells via start implied (z ∷ more) u low is w owner =
    let next = next_is_router net tells.valid prefix failed ds labels u z w.0 in
    elim (here u via) [
      | inl same ↦ on_first via u (z ∷ more) (sym same)
      | inr other ↦ on_later via u (z ∷ more) (elim (true_or_false (is_learned (label_at labels u))) [
        | inl learned ↦ (
            let b = goes_back view net prefix failed ds labels tells u z low learned w.0 in
            elim (true_or_false (owners_plain view && view.must_have u via)) [
              | inl excepted ↦ (
                  let routing = networks_route net prefix failed ds tells.valid in
                  let h = labels_have_chains (problem_of net prefix failed ds) labels routing tells.stable u b.route low b.held in
                  let on = (paths_are_chains (problem_of net prefix failed ds) labels routing h.0 u b.route h.1 via).0 (tells.must u via b.route (and_right (owners_plain view) (view.must_have u via) excepted) b.held) in
                  elim (first_or_later via u h.0 on) [
                    | inl first ↦ absurd (other (sym first))
                    | inr later ↦ over_chain net prefix failed ds tells.valid labels (plain_owners view net prefix failed ds labels tells (and_left (owners_plain view) (view.must_have u via) excepted))
                        h.0 (z ∷ more) u b.route low h.1 w owner via later
                  ])
              | inr elsewhere ↦ visits view net prefix failed ds labels tells via start implied more z next
                  (member_on (waypoint_leads view via) start u z is (back_around view via u z other (tells.owner u ∙ w.0.no_owner) b.back elsewhere)) w.1 owner
            ])
        | inr unlearned ↦ (
            let n = goes_near view net prefix failed ds labels tells u z unlearned w.0 in
            visits view net prefix failed ds labels tells via start implied more z next
            (member_on (waypoint_leads view via) start u z is (hop_around view via u z other (tells.owner u ∙ w.0.no_owner) (unsure view net prefix failed ds labels tells u low unlearned) n.hop)) w.1 owner)
      ])
    ]

contains_on : (x : ℕ) (walk : List ℕ) → is_on x walk ≡ true → Contains walk x
contains_on x [] e = absurd (cc)
contains_on x (v ∷ walk) e = elim (first_or_later x v walk e) [
  | inl first ↦ (0, (omega arith), sym first)
  | inr later ↦ (let c = contains_on x walk later in let low = c.1 in (suc c.0, omega arith, c.2))
]

pub waypoint_holds : (view : View) (net : NetValue) (prefix : PrefixValue) (failed : List ℕ) (ds : List (Option ℕ)) (labels : List (Option Route)) → Tells view net prefix failed ds labels →
    (via start : ℕ) → start < length net.routers → IsWaypointImplied view via start → GoesThrough net prefix failed ds labels via start
waypoint_holds view net prefix failed ds labels tells via start low implied = λ walk w owner.
    contains_on via (start ∷ walk) (visits view net prefix failed ds labels tells via start implied walk start low (member_start (waypoint_leads view via) start) w owner)
