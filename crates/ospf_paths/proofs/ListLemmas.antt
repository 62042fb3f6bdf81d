-- The distance list is the list of distances: least walks have fewer arcs than there are routers.
use Rattle.std.proofs.Common.{ℕ, zero, suc, ◌≡◌, ◌<◌, ◌≤◌, ◌+◌, ◌==◌, ◌⊎◌, inl, inr, min, Bool, true, false, List, [], ◌∷◌, length, Option, Some, None, option_map, slice_get, arith, ap, sym, subst, ◌∙◌, refl}
use Rattle.std.proofs.lemmas.Bool.Decides.{nat_tests}
use Rattle.std.proofs.lemmas.List.FromFn.{length-map-range_with_len, get_or-map-range_with_len}
use Rattle.net_types.specs.declared.arcs.Arc.{Arc}
use Rattle.net_types.specs.declared.network.Link.{Link}
use Rattle.net_types.specs.Arcs.{from_end, to_end}
use Rattle.net_types.specs.FailSets.{holds}
use Rattle.net_types.specs.Distance.{IsWalk, IsDistance, AreDistances, distance_at}
use Rattle.net_types.specs.NetFacts.{IsNet}
use Rattle.net_types.specs.NetValue.{NetValue}
use Rattle.net_types.specs.Owners.{stub_cost}
use Rattle.net_types.specs.PrefixValue.{PrefixValue}
use Rattle.ospf_paths.specs.DistanceList.{lesser, leads_from, sum_over, least_over, nearest, distance_list}
use Rattle.ospf_paths.specs.Laws.{DistanceListIs}
use Rattle.ospf_paths.proofs.Existence.{distances_exist}
use Rattle.ospf_paths.proofs.LawLemmas.{distances_are_one, least_at, none_at, walk_short}
use Rattle.ospf_paths.proofs.Passes.{unwrap}

-- the lesser of two is one of them, and at most each
lesser_is : (a b : Option ℕ) (s : ℕ) → lesser a b ≡ Some s → (a ≡ Some s) ⊎ (b ≡ Some s)
lesser_is None b s e = inr e
lesser_is (Some a) None s e = inl e
lesser_is (Some a) (Some b) s e = elim (one_of a b s (unwrap (min a b) s e)) [ inl f ↦ inl (ap Some f) | inr f ↦ inr (ap Some f) ] where
  one_of : (x y z : ℕ) → min x y ≡ z → (x ≡ z) ⊎ (y ≡ z)
  one_of x y z h = grind arith

-- a sum that is there, and is at most another
abbrev AtMost : Option ℕ → ℕ → Type 0
AtMost o high = (s : ℕ) × (o ≡ Some s) × (s ≤ high)

lesser_left : (a b : Option ℕ) (high : ℕ) → AtMost a high → AtMost (lesser a b) high
lesser_left None b high (s, e, l) = let f : None ≡ Some s = e in cc
lesser_left (Some a) None high (s, e, l) = (s, e, l)
lesser_left (Some a) (Some b) high (s, e, l) = (min a b, refl, (let f = unwrap a s e in omega arith))

lesser_right : (a b : Option ℕ) (high : ℕ) → AtMost b high → AtMost (lesser a b) high
lesser_right None b high at = at
lesser_right (Some a) None high (s, e, l) = let f : None ≡ Some s = e in cc
lesser_right (Some a) (Some b) high (s, e, l) = (min a b, refl, (let f = unwrap b s e in omega arith))

-- the sum s over a direction of one of the links, of which the first has this number
record IsOver (rest : ℕ → Option ℕ) (failed : List ℕ) (u number : ℕ) (links : List Link) (s : ℕ) : Type 0 where
  place : ℕ
  down : Bool
  link : Link
  at : slice_get links place ≡ Some link
  adjacency : link.adjacency ≡ true
  up : holds failed (number + place) ≡ false
  from : (from_end down link).router ≡ u
  far : ℕ
  is : rest (to_end down link).router ≡ Some far
  sum : s ≡ (from_end down link).cost + far

record Leads (failed : List ℕ) (u number : ℕ) (link : Link) (down : Bool) : Type 0 where
  adjacency : link.adjacency ≡ true
  up : holds failed number ≡ false
  from : (from_end down link).router ≡ u

leads : (failed : List ℕ) (u number : ℕ) (link : Link) (down : Bool) → leads_from failed u number link down ≡ true → Leads failed u number link down
leads failed u number link down e = go link.adjacency (holds failed number) refl refl where
  go : (a h : Bool) → link.adjacency ≡ a → holds failed number ≡ h → Leads failed u number link down
  go true false p q = record { adjacency = p; up = q; from = (let t = rw (p, q) at e in grind (arith, nat_tests)) }
  go true true p q = let t = rw (p, q) at e in cc
  go false h p q = let t = rw p at e in cc

sum_over_is : (rest : ℕ → Option ℕ) (failed : List ℕ) (u number : ℕ) (link : Link) (down : Bool) (links : List Link) (s : ℕ) → sum_over rest failed u number link down ≡ Some s → IsOver rest failed u number (link ∷ links) s
sum_over_is rest failed u number link down links s e = go (leads_from failed u number link down) refl where
  at : Leads failed u number link down → (o : Option ℕ) → rest (to_end down link).router ≡ o → option_map (λ far. (from_end down link).cost + far) o ≡ Some s → IsOver rest failed u number (link ∷ links) s
  at l None is f = let g : None ≡ Some s = f in cc
  at l (Some far) is f = record {
    place = 0;
    down = down;
    link = link;
    at = refl;
    adjacency = l.adjacency;
    up = subst (λ (n : ℕ). holds failed n ≡ false) (omega arith) l.up;
    from = l.from;
    far = far;
    is = is;
    sum = sym (unwrap ((from_end down link).cost + far) s f);
  }

  go : (b : Bool) → leads_from failed u number link down ≡ b → IsOver rest failed u number (link ∷ links) s
  go true t = at (leads failed u number link down t) (rest (to_end down link).router) refl (rw t at e)
  go false t = let f : None ≡ Some s = rw t at e in cc

least_over_is : (rest : ℕ → Option ℕ) (failed : List ℕ) (u number : ℕ) (links : List Link) (s : ℕ) → least_over rest failed u number links ≡ Some s → IsOver rest failed u number links s
unfolding least_over
least_over_is rest failed u number [] s e = let f : None ≡ Some s = e in cc
least_over_is rest failed u number (link ∷ links) s e =
    elim (lesser_is (lesser (sum_over rest failed u number link false) (sum_over rest failed u number link true)) (least_over rest failed u (number + 1) links) s e) [
      | inl here ↦ elim (lesser_is (sum_over rest failed u number link false) (sum_over rest failed u number link true) s here) [
        | inl up ↦ sum_over_is rest failed u number link false links s up
        | inr down ↦ sum_over_is rest failed u number link true links s down
      ]
      | inr later ↦ let i = least_over_is rest failed u (number + 1) links s later in
          record {
            place = suc i.place;
            down = i.down;
            link = i.link;
            at = i.at;
            adjacency = i.adjacency;
            up = subst (λ (n : ℕ). holds failed n ≡ false) (omega arith) i.up;
            from = i.from;
            far = i.far;
            is = i.is;
            sum = i.sum;
          }
    ]

sum_over_low : (rest : ℕ → Option ℕ) (failed : List ℕ) (u number : ℕ) (link : Link) (down : Bool) (far : ℕ) → link.adjacency ≡ true → holds failed number ≡ false → (from_end down link).router ≡ u → rest (to_end down link).router ≡ Some far → AtMost (sum_over rest failed u number link down) ((from_end down link).cost + far)
sum_over_low rest failed u number link down far adjacency up from is =
    let same : ((from_end down link).router == u) ≡ true = grind (arith, nat_tests) in
    ((from_end down link).cost + far, rw (same, up, is, adjacency) refl, (omega arith))

here_low : (rest : ℕ → Option ℕ) (failed : List ℕ) (u number : ℕ) (link : Link) (down : Bool) (high : ℕ) → AtMost (sum_over rest failed u number link down) high → AtMost (lesser (sum_over rest failed u number link false) (sum_over rest failed u number link true)) high
here_low rest failed u number link false high at = lesser_left (sum_over rest failed u number link false) (sum_over rest failed u number link true) high at
here_low rest failed u number link true high at = lesser_right (sum_over rest failed u number link false) (sum_over rest failed u number link true) high at

least_over_low : (rest : ℕ → Option ℕ) (failed : List ℕ) (u number : ℕ) (links : List Link) (place named : ℕ) (link : Link) (down : Bool) (far : ℕ) → slice_get links place ≡ Some link → named ≡ number + place → link.adjacency ≡ true → holds failed named ≡ false → (from_end down link).router ≡ u → rest (to_end down link).router ≡ Some far → AtMost (least_over rest failed u number links) ((from_end down link).cost + far)
unfolding least_over
least_over_low rest failed u number [] place named link down far at e adjacency up from is = let f : None ≡ Some link = at in cc
least_over_low rest failed u number (first ∷ links) zero named link down far at e adjacency up from is =
    let same : first ≡ link = cc in
    let here : AtMost (sum_over rest failed u number link down) ((from_end down link).cost + far) = sum_over_low rest failed u number link down far adjacency (let n : named ≡ number = omega arith in subst (λ (n : ℕ). holds failed n ≡ false) n up) from is in
    let there : AtMost (lesser (sum_over rest failed u number first false) (sum_over rest failed u number first true)) ((from_end down link).cost + far) = rw same (here_low rest failed u number link down ((from_end down link).cost + far) here) in
    lesser_left (lesser (sum_over rest failed u number first false) (sum_over rest failed u number first true)) (least_over rest failed u (number + 1) links) ((from_end down link).cost + far) there
least_over_low rest failed u number (first ∷ links) (suc place) named link down far at e adjacency up from is =
    lesser_right (lesser (sum_over rest failed u number first false) (sum_over rest failed u number first true)) (least_over rest failed u (number + 1) links) ((from_end down link).cost + far)
    (least_over_low rest failed u (number + 1) links place named link down far at (omega arith) adjacency up from is)

-- each of these sums is a walk's
nearest_walk : (net : NetValue) (prefix : PrefixValue) (failed : List ℕ) (k u s : ℕ) → nearest net prefix failed k u ≡ Some s → (arcs : List Arc) × IsWalk net prefix failed arcs u s
unfolding nearest
nearest_walk net prefix failed zero u s e = ([], e)
nearest_walk net prefix failed (suc k) u s e =
    elim (lesser_is (stub_cost net prefix u) (least_over (nearest net prefix failed k) failed u 0 net.links) s e) [
      | inl stub ↦ ([], stub)
      | inr over ↦ let o = least_over_is (nearest net prefix failed k) failed u 0 net.links s over in
          let w = nearest_walk net prefix failed k (to_end o.down o.link).router o.far o.is in
          let zero_plus : 0 + o.place ≡ o.place = omega arith in
          let arc : Arc = record { link = o.place; down = o.down } in (
            arc ∷ w.0,
            (
              (to_end o.down o.link).router,
              (from_end o.down o.link).cost,
              o.far,
              record { link = o.link; is = o.at; adjacency = o.adjacency; up = subst (λ (n : ℕ). holds failed n ≡ false) zero_plus o.up; from = o.from; to = refl; costs = refl },
              w.1,
              o.sum,
            ),
          )
    ]

-- and they are at most the sums of walks with so many arcs
nearest_low : (net : NetValue) (prefix : PrefixValue) (failed : List ℕ) (k : ℕ) (arcs : List Arc) (u sum : ℕ) → length arcs ≤ k → IsWalk net prefix failed arcs u sum → AtMost (nearest net prefix failed k u) sum
unfolding nearest
nearest_low net prefix failed zero [] u sum few walk = (sum, walk, (omega arith))
nearest_low net prefix failed zero (arc ∷ arcs) u sum few walk = absurd (omega arith)
nearest_low net prefix failed (suc k) [] u sum few walk = lesser_left (stub_cost net prefix u) (least_over (nearest net prefix failed k) failed u 0 net.links) sum (sum, walk, (omega arith))
nearest_low net prefix failed (suc k) (arc ∷ arcs) u sum few (v, cost, rest, c, walk, is) =
    let i = nearest_low net prefix failed k arcs v rest (omega arith) walk in
    let far : nearest net prefix failed k (to_end arc.down c.link).router ≡ Some i.0 = subst (λ (w : ℕ). nearest net prefix failed k w ≡ Some i.0) (sym c.to) i.1 in
    let o = least_over_low (nearest net prefix failed k) failed u 0 net.links arc.link arc.link c.link arc.down i.0 c.is (omega arith) c.adjacency c.up c.from far in
    lesser_right (stub_cost net prefix u) (least_over (nearest net prefix failed k) failed u 0 net.links) sum (o.0, o.1, (let a = o.2 in let b = i.2 in let d = c.costs in omega arith))

-- so with as many arcs as there are routers they are the distances
nearest_is : (net : NetValue) (prefix : PrefixValue) (failed : List ℕ) → IsNet net → (u : ℕ) → u < length net.routers → IsDistance net prefix failed u (nearest net prefix failed (length net.routers) u)
nearest_is net prefix failed valid u low = go (distances_exist net valid prefix failed).0 (distances_exist net valid prefix failed).1 where
  some : (ds : List (Option ℕ)) → AreDistances net prefix failed ds → (d : ℕ) → distance_at ds u ≡ Some d → IsDistance net prefix failed u (nearest net prefix failed (length net.routers) u)
  some ds are d is =
      let l = least_at net prefix failed ds are u d is in
      let short = walk_short net prefix failed ds valid are l.walk.0 u d l.walk.1 is in
      let n = nearest_low net prefix failed (length net.routers) l.walk.0 u d (let e = are.long in omega arith) l.walk.1 in
      let w = nearest_walk net prefix failed (length net.routers) u n.0 n.1 in
      let same : d ≡ n.0 = (let a = l.least w.0 n.0 w.1 in let b = n.2 in omega arith) in
      let at : Some d ≡ nearest net prefix failed (length net.routers) u = ap Some same ∙ sym n.1 in
      subst (λ (o : Option ℕ). IsDistance net prefix failed u o) at l

  none : (ds : List (Option ℕ)) → AreDistances net prefix failed ds → distance_at ds u ≡ None → (o : Option ℕ) → nearest net prefix failed (length net.routers) u ≡ o → IsDistance net prefix failed u o
  none ds are is None e = none_at net prefix failed ds are u low is
  none ds are is (Some s) e = let w = nearest_walk net prefix failed (length net.routers) u s e in absurd (none_at net prefix failed ds are u low is w.0 s w.1)

  each : (ds : List (Option ℕ)) → AreDistances net prefix failed ds → (o : Option ℕ) → distance_at ds u ≡ o → IsDistance net prefix failed u (nearest net prefix failed (length net.routers) u)
  each ds are None is = none ds are is (nearest net prefix failed (length net.routers) u) refl
  each ds are (Some d) is = some ds are d is

  go : (ds : List (Option ℕ)) → AreDistances net prefix failed ds → IsDistance net prefix failed u (nearest net prefix failed (length net.routers) u)
  go ds are = each ds are (distance_at ds u) refl

pub distance_list_is : DistanceListIs
unfolding distance_list
distance_list_is net prefix failed valid = record {
  long = length-map-range_with_len (nearest net prefix failed (length net.routers)) 0 (length net.routers);
  each = λ u low. subst (λ (o : Option ℕ). IsDistance net prefix failed u o)
      (sym (get_or-map-range_with_len (nearest net prefix failed (length net.routers)) 0 (length net.routers) u u None low (omega arith)))
      (nearest_is net prefix failed valid u low);
}

-- so it is equal to every list of distances
pub distances_are_list : (net : NetValue) → IsNet net → (prefix : PrefixValue) (failed : List ℕ) (ds : List (Option ℕ)) → AreDistances net prefix failed ds → ds ≡ distance_list net prefix failed
distances_are_list net valid prefix failed ds are = distances_are_one net prefix failed ds (distance_list net prefix failed) are (distance_list_is net prefix failed valid)
