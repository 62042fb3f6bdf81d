-- One step of forwarding: where owners, learned labels and other labels send traffic, and who is stuck.
use Rattle.std.proofs.Common.{ℕ, zero, suc, ◌≡◌, ◌<◌, ◌+◌, ◌++◌, ◌↔◌, true, false, List, [], ◌∷◌, length, replicate, Option, Some, None, unwrap_or, length-append, add-one, arith, ap, sym, subst, ◌∙◌, refl, inl, inr, Bool}
use Rattle.std.specs.Option.{option_map}
use Rattle.std.proofs.lemmas.Bool.{false≢true}
use Rattle.std.proofs.lemmas.Bool.Decides.{nat_tests}
use Rattle.net_types.specs.declared.arcs.Arc.{Arc}
use Rattle.net_types.specs.declared.network.Link.{Link}
use Rattle.net_types.specs.declared.routes.Route.{Route}
use Rattle.net_types.specs.declared.routes.Source.{Source}
use Rattle.net_types.specs.declared.routes.Source.TheVariants.{Local, Learned}
use Rattle.net_types.specs.Arcs.{from_end, link_of, receiver_of, sender_of, to_end}
use Rattle.net_types.specs.Distance.{HasHop, IsHop, distance_at}
use Rattle.net_types.specs.NetFacts.{IsLink, IsNet}
use Rattle.net_types.specs.NetValue.{NetValue}
use Rattle.net_types.specs.Owners.{owns}
use Rattle.net_types.specs.PrefixValue.{PrefixValue}
use Rattle.net_types.specs.Routes.{is_on}
use Rattle.ospf_paths.proofs.Facts.{all_at, crossed}
use Rattle.ospf_paths.proofs.LawLemmas.{far_routers_hop}
use Rattle.concrete_algebra.specs.Problem.{problem_of}
use Rattle.concrete_algebra.specs.Stability.{Arrives, IsBest, IsCandidate, IsChoice, IsStable, comes_over_arc, is_learned, label_at}
use Rattle.concrete_algebra.proofs.RoutingLemmas.{networks_route, up_link}
use Rattle.property_book.specs.Forwarding.{Forwards, GoesByLabel, GoesBySource}
use Rattle.property_book.specs.Laws.{HopsGoAlongArcs, IsolatedAreStuck, LearnedGoBack, LearnedGoOneWay, LearnedGoToSenders, OthersGoByHops, OwnersDeliver, StuckAreIsolated}

unwrap : {A : Type 0} (a b : A) → Some a ≡ Some b → a ≡ b
unwrap a b h = cc

-- ---- owners

pub owners_deliver : OwnersDeliver
owners_deliver net prefix failed ds labels u v owner f = false≢true (sym f.no_owner ∙ owner)

-- ---- learned labels

pub learned_go_to_senders : LearnedGoToSenders
learned_go_to_senders net prefix failed ds labels u v route arc none held source = (
  (λ f.
      let by_route = subst (λ (o : Option Route). GoesByLabel net prefix failed ds u v o) held f.goes in
      subst (λ (s : Source). GoesBySource net prefix failed ds u v s) source by_route),
  (λ sender. record {
    no_owner = none;
    goes =
        subst (λ (o : Option Route). GoesByLabel net prefix failed ds u v o) (sym held)
        (subst (λ (s : Source). GoesBySource net prefix failed ds u v s) (sym source) sender);
  }),
)

-- the route and the arc of a learned label
learned_from : (s : Source) → comes_over_arc s ≡ true → (arc : Arc) × (s ≡ Learned arc)
learned_from Local e = absurd (false≢true e)
learned_from (Learned arc) e = (arc, refl)

pub learned_over : (o : Option Route) → is_learned o ≡ true → (route : Route) × (arc : Arc) × (o ≡ Some route) × (route.source ≡ Learned arc)
learned_over None e = absurd (false≢true e)
learned_over (Some route) e = let l = learned_from route.source e in (route, l.0, refl, l.1)

pub learned_go_one_way : LearnedGoOneWay
learned_go_one_way net prefix failed ds labels u v w learned f g =
    let l = learned_over (label_at labels u) learned in
    let a = (learned_go_to_senders net prefix failed ds labels u v l.0 l.1 f.no_owner l.2 l.3).0 f in
    let b = (learned_go_to_senders net prefix failed ds labels u w l.0 l.1 g.no_owner l.2 l.3).0 g in
    unwrap v w (sym a ∙ b)

-- at a stable labelling the arc of a learned label is up, goes to its router, and carried the label
pub came : (net : NetValue) → IsNet net → (prefix : PrefixValue) (failed : List ℕ) (ds : List (Option ℕ)) (labels : List (Option Route)) (u : ℕ) (route : Route) (arc : Arc) → IsStable (problem_of net prefix failed ds) labels → u < length net.routers → label_at labels u ≡ Some route → route.source ≡ Learned arc → (sent : Route) × Arrives (problem_of net prefix failed ds) labels u arc sent route
came net valid prefix failed ds labels u route arc stable low held source =
    let best : IsBest (problem_of net prefix failed ds) labels u route = subst (λ (o : Option Route). IsChoice (problem_of net prefix failed ds) labels u o) held (stable.each u low) in
    go best.candidate where
      go : IsCandidate (problem_of net prefix failed ds) labels u route → (sent : Route) × Arrives (problem_of net prefix failed ds) labels u arc sent route
      go (inl (over, sent, a)) =
          let p = (networks_route net prefix failed ds valid).carried over sent route a.up a.carried in
          let same : over ≡ arc = (let e : Learned over ≡ Learned arc = sym p.source ∙ source in cc) in
          (sent, subst (λ (x : Arc). Arrives (problem_of net prefix failed ds) labels u x sent route) same a)
      go (inr c) =
          let p = (networks_route net prefix failed ds valid).local u route c.local in
          absurd (let e : Local ≡ Learned arc = sym p.source ∙ source in cc)

-- an arc that is up has a sender and a receiver
record HasEnds (net : NetValue) (arc : Arc) : Type 0 where
  from : ℕ
  to : ℕ
  sender : sender_of net arc ≡ Some from
  receiver : receiver_of net arc ≡ Some to

ends_there : (net : NetValue) (arc : Arc) → (link : Link) × (link_of net arc ≡ Some link) → HasEnds net arc
ends_there net arc (link, is) = record {
  from = (from_end arc.down link).router;
  to = (to_end arc.down link).router;
  sender = ap (λ (x : Option Link). option_map (λ (l : Link). (from_end arc.down l).router) x) is;
  receiver = ap (λ (x : Option Link). option_map (λ (l : Link). (to_end arc.down l).router) x) is;
}

length-replicate : (k x : ℕ) → length (replicate k x) ≡ k
length-replicate zero x = refl
length-replicate (suc k) x = let e = length-replicate k x in omega arith

shorter : (mine theirs receiver sender : ℕ) (sent path : List ℕ) → path ≡ replicate mine receiver ++ (replicate (theirs + 1) sender ++ sent) → length sent < length path
shorter mine theirs receiver sender sent path e =
    let f = ap length e in
    let e1 = length-append (replicate mine receiver) (replicate (theirs + 1) sender ++ sent) in
    let e2 = length-append (replicate (theirs + 1) sender) sent in
    let e3 = length-replicate (theirs + 1) sender in
    omega arith

on_right : (x : ℕ) (xs ys : List ℕ) → is_on x ys ≡ true → is_on x (xs ++ ys) ≡ true
on_right x [] ys on = on
on_right x (y ∷ xs) ys on = let later = on_right x xs ys on in grind (arith, nat_tests)

on_front : (x k : ℕ) (ys : List ℕ) → is_on x (replicate (k + 1) x ++ ys) ≡ true
on_front x k ys = rw add-one (grind (arith, nat_tests))

pub learned_go_back : LearnedGoBack
learned_go_back net prefix failed ds labels u valid stable low none learned =
    let l = learned_over (label_at labels u) learned in
    let c = came net valid prefix failed ds labels u l.0 l.1 stable low l.2 l.3 in
    let routing = networks_route net prefix failed ds valid in
    let p = routing.carried l.1 c.0 l.0 c.1.up c.1.carried in
    let e = ends_there net l.1 (up_link net failed l.1 c.1.up) in (
      (e.from, (learned_go_to_senders net prefix failed ds labels u e.from l.0 l.1 none l.2 l.3).1 e.sender),
      (λ v f.
          let is = (learned_go_to_senders net prefix failed ds labels u v l.0 l.1 none l.2 l.3).0 f in
          let at : unwrap_or (sender_of net l.1) 0 ≡ v = ap (λ (o : Option ℕ). unwrap_or o 0) is in
          let there : e.to ≡ u = sym (ap (λ (o : Option ℕ). unwrap_or o 0) e.receiver) ∙ c.1.to in
          record {
            route = l.0;
            held = l.2;
            arc = l.1;
            over = l.3;
            up = c.1.up;
            to = e.receiver ∙ ap (λ (x : ℕ). Some x) there;
            from = is;
            other = λ same. p.apart (c.1.to ∙ sym same ∙ sym at);
            on_path =
                subst (λ (x : ℕ). is_on x l.0.path ≡ true) at
                (subst (λ (path : List ℕ). is_on (unwrap_or (sender_of net l.1) 0) path ≡ true) (sym p.path)
                (on_right (unwrap_or (sender_of net l.1) 0) (replicate p.mine (unwrap_or (receiver_of net l.1) 0)) (replicate (p.theirs + 1) (unwrap_or (sender_of net l.1) 0) ++ c.0.path)
                (on_front (unwrap_or (sender_of net l.1) 0) p.theirs c.0.path)));
            sent = c.0;
            sends = subst (λ (x : ℕ). label_at labels x ≡ Some c.0) at c.1.held;
            shorter = shorter p.mine p.theirs _ _ c.0.path l.0.path p.path;
          }),
    )

-- ---- other labels

hop_by_source : (net : NetValue) (prefix : PrefixValue) (failed : List ℕ) (ds : List (Option ℕ)) (u v : ℕ) (s : Source) → comes_over_arc s ≡ false → GoesBySource net prefix failed ds u v s ↔ HasHop net prefix failed ds u v
hop_by_source net prefix failed ds u v Local e = ((λ g. g), (λ g. g))
hop_by_source net prefix failed ds u v (Learned arc) e = absurd (false≢true (sym e))

hop_by_label : (net : NetValue) (prefix : PrefixValue) (failed : List ℕ) (ds : List (Option ℕ)) (u v : ℕ) (o : Option Route) → is_learned o ≡ false → GoesByLabel net prefix failed ds u v o ↔ HasHop net prefix failed ds u v
hop_by_label net prefix failed ds u v None e = ((λ g. g), (λ g. g))
hop_by_label net prefix failed ds u v (Some route) e = hop_by_source net prefix failed ds u v route.source e

pub others_go_by_hops : OthersGoByHops
others_go_by_hops net prefix failed ds labels u v e = (
  (λ f. (hop_by_label net prefix failed ds u v (label_at labels u) e).0 f.goes),
  (λ hop. record { no_owner = hop.1.no_owner; goes = (hop_by_label net prefix failed ds u v (label_at labels u) e).1 hop }),
)

pub hops_go_along_arcs : HopsGoAlongArcs
hops_go_along_arcs net prefix failed ds labels u v e = (
  (λ f.
      let hop = (others_go_by_hops net prefix failed ds labels u v e).0 f in
      let c = hop.1.tight.crosses in (
        hop.0,
        (u, v, hop.1),
        ap (λ (x : Option Link). option_map (λ (l : Link). (from_end hop.0.down l).router) x) c.is ∙ ap (λ (x : ℕ). Some x) c.from,
        ap (λ (x : Option Link). option_map (λ (l : Link). (to_end hop.0.down l).router) x) c.is ∙ ap (λ (x : ℕ). Some x) c.to,
      )),
  (λ (arc, (x, y, hop), sender, receiver).
      let c = hop.tight.crosses in
      let from : x ≡ u =
      unwrap x u (sym (ap (λ (o : Option Link). option_map (λ (l : Link). (from_end arc.down l).router) o) c.is ∙ ap (λ (z : ℕ). Some z) c.from) ∙ sender) in
      let to : y ≡ v =
      unwrap y v (sym (ap (λ (o : Option Link). option_map (λ (l : Link). (to_end arc.down l).router) o) c.is ∙ ap (λ (z : ℕ). Some z) c.to) ∙ receiver) in
      (others_go_by_hops net prefix failed ds labels u v e).1
      (arc, subst (λ (z : ℕ). IsHop net prefix failed ds arc u z) to (subst (λ (z : ℕ). IsHop net prefix failed ds arc z y) from hop))),
)

-- ---- where traffic goes is a router

sender_below : (net : NetValue) → IsNet net → (arc : Arc) (v : ℕ) (o : Option Link) → link_of net arc ≡ o → option_map (λ (l : Link). (from_end arc.down l).router) o ≡ Some v → v < length net.routers
sender_below net valid arc v None is e = absurd (let f : None ≡ Some v = e in cc)
sender_below net valid arc v (Some link) is e =
    let l = all_at (IsLink net.routers) net.links arc.link link valid.links is in
    subst (λ (x : ℕ). x < length net.routers) (unwrap (from_end arc.down link).router v e) (end_below arc.down l) where
      end_below : (down : Bool) → IsLink net.routers link → (from_end down link).router < length net.routers
      end_below false i = i.low.router
      end_below true i = i.high.router

next_by_source : (net : NetValue) → IsNet net → (prefix : PrefixValue) (failed : List ℕ) (ds : List (Option ℕ)) (u v : ℕ) (s : Source) → GoesBySource net prefix failed ds u v s → v < length net.routers
next_by_source net valid prefix failed ds u v Local hop = (crossed net valid failed hop.0 u v hop.1.tight.cost hop.1.tight.crosses).to
next_by_source net valid prefix failed ds u v (Learned arc) is = sender_below net valid arc v (link_of net arc) refl is

next_by_label : (net : NetValue) → IsNet net → (prefix : PrefixValue) (failed : List ℕ) (ds : List (Option ℕ)) (u v : ℕ) (o : Option Route) → GoesByLabel net prefix failed ds u v o → v < length net.routers
next_by_label net valid prefix failed ds u v None hop = (crossed net valid failed hop.0 u v hop.1.tight.cost hop.1.tight.crosses).to
next_by_label net valid prefix failed ds u v (Some route) g = next_by_source net valid prefix failed ds u v route.source g

pub next_is_router : (net : NetValue) → IsNet net → (prefix : PrefixValue) (failed : List ℕ) (ds : List (Option ℕ)) (labels : List (Option Route)) (u v : ℕ) → Forwards net prefix failed ds labels u v → v < length net.routers
next_is_router net valid prefix failed ds labels u v f = next_by_label net valid prefix failed ds u v (label_at labels u) f.goes

-- ---- isolated routers

pub isolated_are_stuck : IsolatedAreStuck
isolated_are_stuck net prefix failed ds labels u v i f =
    let hop = (others_go_by_hops net prefix failed ds labels u v i.not_learned).0 f in
    let e : None ≡ Some (hop.1.tight.cost + hop.1.tight.distance) = sym i.no_distance ∙ hop.1.tight.near in
    cc

pub stuck_are_isolated : StuckAreIsolated
stuck_are_isolated net prefix failed ds labels u valid are stable low = (
  (λ i. (i.no_owner, λ v f. isolated_are_stuck net prefix failed ds labels u v i f)),
  (λ s. let learned = not_learned s.0 s.1 (is_learned (label_at labels u)) refl in record {
    no_owner = s.0;
    not_learned = learned;
    no_distance = no_distance s.0 learned s.1 (distance_at ds u) refl;
  }),
) where
  not_learned : owns net u prefix ≡ false → ((v : ℕ) → Forwards net prefix failed ds labels u v → ⊥) → (b : Bool) → is_learned (label_at labels u) ≡ b → is_learned (label_at labels u) ≡ false
  not_learned none stuck false e = e
  not_learned none stuck true e = let l = (learned_go_back net prefix failed ds labels u valid stable low none e).0 in absurd (stuck l.0 l.1)

  no_distance : owns net u prefix ≡ false → is_learned (label_at labels u) ≡ false → ((v : ℕ) → Forwards net prefix failed ds labels u v → ⊥) → (o : Option ℕ) → distance_at ds u ≡ o → distance_at ds u ≡ None
  no_distance none learned stuck None e = e
  no_distance none learned stuck (Some d) e =
      let hop = far_routers_hop net prefix failed ds valid are u d e none in
      absurd (stuck hop.0 ((others_go_by_hops net prefix failed ds labels u hop.0 learned).1 hop.1))
