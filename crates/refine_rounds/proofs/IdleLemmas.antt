-- The set of the idle links has the links that are idle, and no others.
use Rattle.std.proofs.Common.{ℕ, ◌≡◌, ◌<◌, ◌+◌, ◌&&◌, inl, inr, ◌↔◌, IsTrue, Bool, true, false, not, List, length, Option, Some, None, ap, sym, subst, ◌∙◌, refl}
use Rattle.std.specs.Option.{option_map_or}
use Rattle.net_types.specs.declared.arcs.Arc.{Arc}
use Rattle.net_types.specs.declared.network.Link.{Link}
use Rattle.net_types.specs.Arcs.{down_of, from_end, link_of, sender_of, to_end, up_of}
use Rattle.net_types.specs.Distance.{IsTight, distance_at}
use Rattle.net_types.specs.FailSets.{holds}
use Rattle.net_types.specs.NetValue.{NetValue}
use Rattle.net_types.specs.PrefixValue.{PrefixValue}
use Rattle.net_types.specs.Sets.{has}
use Rattle.net_types.specs.Turns.{set_of}
use Rattle.net_types.proofs.TestLemmas.{both, equal_self, pair, same_number}
use Rattle.net_types.proofs.TurnLemmas.{set_in, set_past}
use Rattle.ospf_paths.specs.DistanceList.{distance_list}
use Rattle.ospf_paths.specs.Laws.{IsTightArc}
use Rattle.abstract_route.specs.Rows.{row_at}
use Rattle.abstract_maps.proofs.SetWords.{below_or_not}
use Rattle.abstract_maps.specs.Transfer.{opens}
use Rattle.possible_fixpoint.specs.Held.{all_alive}
use Rattle.certain_fixpoint.specs.Certain.{Round}
use Rattle.refine_rounds.specs.Idle.{IsIdle, idle_set, is_idle, is_quiet, is_sum, open_arc, tight_arc, tight_over}
use Rattle.refine_rounds.specs.Results.{result_of}
use Rattle.refine_rounds.specs.Reuse.{IdleLinksAre}
use Rattle.refine_rounds.specs.Rounds.{round_of}

not_from : (b : Bool) → not b ≡ true → b ≡ false
not_from true e = absurd (cc)
not_from false e = refl

not_to : (b : Bool) → b ≡ false → not b ≡ true
not_to true e = absurd (cc)
not_to false e = refl

-- ---- tight arcs

sum_from : (cost : ℕ) (near far : Option ℕ) → is_sum cost near far ≡ true → (d : ℕ) × (far ≡ Some d) × (near ≡ Some (cost + d))
sum_from cost None far e = absurd (cc)
sum_from cost (Some n) None e = absurd (cc)
sum_from cost (Some n) (Some d) e = (d, refl, ap Some (same_number n (cost + d) e))

sum_to : (cost d : ℕ) (near far : Option ℕ) → far ≡ Some d → near ≡ Some (cost + d) → is_sum cost near far ≡ true
sum_to cost d near far f n = rw (f, n) (equal_self (cost + d))

link_from : (o : Option Link) (test : Link → Bool) → option_map_or test o false ≡ true → (link : Link) × (o ≡ Some link) × (test link ≡ true)
link_from None test e = absurd (cc)
link_from (Some link) test e = (link, refl, e)

tight_from : (net : NetValue) (failed : List ℕ) (ds : List (Option ℕ)) (arc : Arc) → tight_arc net failed ds arc ≡ true → IsTightArc net failed ds arc
unfolding tight_arc
tight_from net failed ds arc e =
    let l = link_from (link_of net arc) (tight_over failed ds arc) e in
    let from = (from_end arc.down l.0).router in
    let to = (to_end arc.down l.0).router in
    let sum = is_sum (from_end arc.down l.0).cost (distance_at ds from) (distance_at ds to) in
    let a = both l.0.adjacency (not (holds failed arc.link) && sum) l.2 in
    let b = both (not (holds failed arc.link)) sum a.1 in
    let s = sum_from (from_end arc.down l.0).cost (distance_at ds from) (distance_at ds to) b.1 in (
      (from_end arc.down l.0).router,
      (to_end arc.down l.0).router,
      record {
        cost = (from_end arc.down l.0).cost;
        crosses = record { link = l.0; is = l.1; adjacency = a.0; up = not_from (holds failed arc.link) b.0; from = refl; to = refl; costs = refl };
        distance = s.0;
        far = s.1;
        near = s.2;
      },
    )

tight_to : (net : NetValue) (failed : List ℕ) (ds : List (Option ℕ)) (arc : Arc) (u v : ℕ) → IsTight net failed ds arc u v → tight_arc net failed ds arc ≡ true
unfolding tight_arc
tight_to net failed ds arc u v t =
    let c = t.crosses in
    let from = (from_end arc.down c.link).router in
    let to = (to_end arc.down c.link).router in
    let cost = (from_end arc.down c.link).cost in
    let sum = is_sum cost (distance_at ds from) (distance_at ds to) in
    let far : distance_at ds to ≡ Some t.distance = subst (λ (x : ℕ). distance_at ds x ≡ Some t.distance) (sym c.to) t.far in
    let near : distance_at ds from ≡ Some (cost + t.distance) = subst (λ (x : ℕ). distance_at ds x ≡ Some (cost + t.distance)) (sym c.from)
    (subst (λ (n : ℕ). distance_at ds u ≡ Some (n + t.distance)) (sym c.costs) t.near) in
    ap (λ (o : Option Link). option_map_or (tight_over failed ds arc) o false) c.is ∙
    pair c.link.adjacency (not (holds failed arc.link) && sum) c.adjacency
    (pair (not (holds failed arc.link)) sum (not_to (holds failed arc.link) c.up)
    (sum_to cost t.distance (distance_at ds from) (distance_at ds to) far near))

same_bool : (a b : Bool) → (IsTrue a → b ≡ true) → (b ≡ true → IsTrue a) → a ≡ b
same_bool true b f g = sym (f refl)
same_bool false true f g = g refl
same_bool false false f g = refl

-- the test of the code
pub tight_by : (net : NetValue) (failed : List ℕ) (ds : List (Option ℕ)) (arc : Arc) (result : Bool) → IsTrue result ↔ IsTightArc net failed ds arc → result ≡ tight_arc net failed ds arc
tight_by net failed ds arc result is = same_bool result (tight_arc net failed ds arc)
    (λ t. let tight = is.0 t in tight_to net failed ds arc tight.0 tight.1 tight.2)
    (λ e. is.1 (tight_from net failed ds arc e))

-- ---- open arcs

test_off : (test : ℕ → Bool) (o : Option ℕ) → ((v : ℕ) → o ≡ Some v → test v ≡ false) → option_map_or test o false ≡ false
test_off test None none = refl
test_off test (Some v) none = none v refl

closed_from : (round : Round) (arc : Arc) (v : ℕ) → open_arc round arc ≡ false → sender_of round.net arc ≡ Some v → opens round.net round.prefix arc (row_at round.rows v) ≡ false
unfolding open_arc
closed_from round arc v e from = sym (ap (λ (o : Option ℕ). option_map_or (λ v. opens round.net round.prefix arc (row_at round.rows v)) o false) from) ∙ e

closed_to : (round : Round) (arc : Arc) → ((v : ℕ) → sender_of round.net arc ≡ Some v → opens round.net round.prefix arc (row_at round.rows v) ≡ false) → open_arc round arc ≡ false
unfolding open_arc
closed_to round arc closed = test_off (λ v. opens round.net round.prefix arc (row_at round.rows v)) (sender_of round.net arc) closed

-- ---- idle links

same_arc : (arc : Arc) (link : ℕ) → arc.link ≡ link → arc ≡ (record { link = link; down = arc.down })
same_arc arc link e = λ i. record { link = e i; down = arc.down }

way : (round : Round) (link : ℕ) (down : Bool) → is_quiet round (up_of link) ≡ true → is_quiet round (down_of link) ≡ true → is_quiet round (record { link = link; down = down }) ≡ true
way round link false up down = up
way round link true up down = down

quiet_at : (round : Round) (link : ℕ) → is_idle round link ≡ true → (arc : Arc) → arc.link ≡ link → is_quiet round arc ≡ true
quiet_at round link e arc same =
    let a = both (not (holds round.failed link)) (is_quiet round (up_of link) && is_quiet round (down_of link)) e in
    let b = both (is_quiet round (up_of link)) (is_quiet round (down_of link)) a.1 in
    subst (λ (x : Arc). is_quiet round x ≡ true) (sym (same_arc arc link same)) (way round link arc.down b.0 b.1)

true_is_not : (b : Bool) → b ≡ true → b ≡ false → ⊥
true_is_not b e f = cc

never : (b : Bool) → (b ≡ true → ⊥) → b ≡ false
never true no_way = absurd (no_way refl)
never false no_way = refl

-- the first round of a case
abbrev first_round : NetValue → PrefixValue → List ℕ → Round
first_round net prefix failed = round_of net prefix failed (distance_list net prefix failed) all_alive

idle_from : (net : NetValue) (prefix : PrefixValue) (failed : List ℕ) (link : ℕ) → link < length net.links → is_idle (first_round net prefix failed) link ≡ true → IsIdle net prefix failed link
idle_from net prefix failed link inside e =
    let round = first_round net prefix failed in
    let quiet = λ (arc : Arc) (same : arc.link ≡ link).
    both (not (open_arc round arc)) (not (tight_arc net failed (distance_list net prefix failed) arc)) (quiet_at round link e arc same) in
    record {
      inside = inside;
      up = not_from (holds failed link) (both (not (holds failed link)) (is_quiet round (up_of link) && is_quiet round (down_of link)) e).0;
      closed = λ arc v same from. closed_from round arc v (not_from (open_arc round arc) (quiet arc same).0) from;
      slack = λ arc same tight. true_is_not (tight_arc net failed (distance_list net prefix failed) arc)
          (tight_to net failed (distance_list net prefix failed) arc tight.0 tight.1 tight.2)
          (not_from (tight_arc net failed (distance_list net prefix failed) arc) (quiet arc same).1);
    }

quiet_to : (net : NetValue) (prefix : PrefixValue) (failed : List ℕ) (link : ℕ) → IsIdle net prefix failed link → (arc : Arc) → arc.link ≡ link → is_quiet (first_round net prefix failed) arc ≡ true
quiet_to net prefix failed link idle arc same =
    let ds = distance_list net prefix failed in
    pair (not (open_arc (first_round net prefix failed) arc)) (not (tight_arc net failed ds arc))
    (not_to (open_arc (first_round net prefix failed) arc) (closed_to (first_round net prefix failed) arc (λ v from. idle.closed arc v same from)))
    (not_to (tight_arc net failed ds arc) (never (tight_arc net failed ds arc) (λ e. idle.slack arc same (tight_from net failed ds arc e))))

idle_to : (net : NetValue) (prefix : PrefixValue) (failed : List ℕ) (link : ℕ) → IsIdle net prefix failed link → is_idle (first_round net prefix failed) link ≡ true
idle_to net prefix failed link idle =
    let round = first_round net prefix failed in
    pair (not (holds failed link)) (is_quiet round (up_of link) && is_quiet round (down_of link)) (not_to (holds failed link) idle.up)
    (pair (is_quiet round (up_of link)) (is_quiet round (down_of link)) (quiet_to net prefix failed link idle (up_of link) refl) (quiet_to net prefix failed link idle (down_of link) refl))

-- a set made by a test, below a bound
set_from : (test : ℕ → Bool) (k x : ℕ) → has (set_of test k) x ≡ true → (x < k) × (test x ≡ true)
set_from test k x e = elim (below_or_not x k) [
  | inl low ↦ (low, sym (set_in test k x low) ∙ e)
  | inr high ↦ absurd (true_is_not (has (set_of test k) x) e (set_past test k x high))
]

pub idle_links_are : IdleLinksAre
unfolding result_of idle_set
idle_links_are net prefix failed link = (
  λ e. let s = set_from (is_idle (first_round net prefix failed)) (length net.links) link e in idle_from net prefix failed link s.0 s.1,
  λ idle. set_in (is_idle (first_round net prefix failed)) (length net.links) link idle.inside ∙ idle_to net prefix failed link idle,
)
