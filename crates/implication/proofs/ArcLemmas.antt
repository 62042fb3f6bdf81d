-- Next hops and steps back, arc by arc.
use Rattle.std.proofs.Common.{ℕ, zero, suc, ◌≡◌, ◌<◌, ◌+◌, ◌^◌, ◌==◌, ◌||◌, ◌&&◌, not, ◌⊎◌, inl, inr, ◌↔◌, IsTrue, Bool, true, false, bit_or, length, List, Option, Some, None, arith, ap, sym, subst, ◌∙◌, refl}
use Rattle.std.specs.Option.{option_map, option_map_or}
use Rattle.std.specs.List.{list_any, range_with_len}
use Rattle.std.proofs.lemmas.Bool.Decides.{nat_tests}
use Rattle.net_types.specs.declared.arcs.Arc.{Arc}
use Rattle.net_types.specs.declared.network.Link.{Link}
use Rattle.net_types.specs.Arcs.{down_of, from_end, link_of, receiver_of, sender_of, to_end, up_of}
use Rattle.net_types.specs.Better.{same_router}
use Rattle.net_types.specs.Distance.{Crosses, HasHop, IsHop, IsNextHop, IsTight, distance_at}
use Rattle.net_types.specs.FailSets.{holds}
use Rattle.net_types.specs.NetValue.{NetValue}
use Rattle.net_types.specs.Owners.{owns}
use Rattle.net_types.specs.PrefixValue.{PrefixValue}
use Rattle.net_types.specs.Sets.{has}
use Rattle.net_types.proofs.TestLemmas.{both, pair, left, right, either, same_number, equal_self}
use Rattle.net_types.proofs.TurnLemmas.{has_none}
use Rattle.refine_rounds.specs.Results.{CaseValue}
use Rattle.implication.specs.View.{back_over, goes, hop_over, hops_over, is_hop, is_sum, may_bring, some_arc, some_below, some_way}
use Rattle.implication.specs.OnTheWay.{IsSetOf, IsWith}
use Rattle.implication.proofs.SetLemmas.{has_with, off, some_at, some_from, true_or_false}

-- ---- the ends of an arc

unwrap : (a b : ℕ) → Some a ≡ Some b → a ≡ b
unwrap a b h = cc

same_from : (o : Option ℕ) (u : ℕ) → same_router o (Some u) ≡ true → o ≡ Some u
same_from None u e = absurd (cc)
same_from (Some v) u e = ap Some (same_number v u e)

same_to : (o : Option ℕ) (u : ℕ) → o ≡ Some u → same_router o (Some u) ≡ true
same_to o u e = rw e (equal_self u)

pub goes_from : (net : NetValue) (arc : Arc) (u v : ℕ) → goes net arc u v ≡ true → (sender_of net arc ≡ Some u) × (receiver_of net arc ≡ Some v)
goes_from net arc u v e =
    let b = both (same_router (sender_of net arc) (Some u)) (same_router (receiver_of net arc) (Some v)) e in
    (same_from (sender_of net arc) u b.0, same_from (receiver_of net arc) v b.1)

pub goes_to : (net : NetValue) (arc : Arc) (u v : ℕ) → sender_of net arc ≡ Some u → receiver_of net arc ≡ Some v → goes net arc u v ≡ true
goes_to net arc u v from to =
    pair (same_router (sender_of net arc) (Some u)) (same_router (receiver_of net arc) (Some v)) (same_to (sender_of net arc) u from) (same_to (receiver_of net arc) v to)

-- ---- an arc to a next hop

sum_from : (cost : ℕ) (near far : Option ℕ) → is_sum cost near far ≡ true → (d : ℕ) × (far ≡ Some d) × (near ≡ Some (cost + d))
sum_from cost None far e = absurd (cc)
sum_from cost (Some n) None e = absurd (cc)
sum_from cost (Some n) (Some d) e = (d, refl, ap Some (same_number n (cost + d) e))

sum_to : (cost d : ℕ) (near far : Option ℕ) → far ≡ Some d → near ≡ Some (cost + d) → is_sum cost near far ≡ true
sum_to cost d near far f n = rw (f, n) (equal_self (cost + d))

link_from : (o : Option Link) (test : Link → Bool) → option_map_or test o false ≡ true → (link : Link) × (o ≡ Some link) × (test link ≡ true)
link_from None test e = absurd (cc)
link_from (Some link) test e = (link, refl, e)

not_from : (b : Bool) → not b ≡ true → b ≡ false
not_from true e = absurd (cc)
not_from false e = refl

not_to : (b : Bool) → b ≡ false → not b ≡ true
not_to b e = rw e refl

hop_from_link : (net : NetValue) (prefix : PrefixValue) (failed : List ℕ) (ds : List (Option ℕ)) (arc : Arc) (link : Link) → link_of net arc ≡ Some link → hops_over net prefix failed ds arc link ≡ true →
    IsHop net prefix failed ds arc (from_end arc.down link).router (to_end arc.down link).router
hop_from_link net prefix failed ds arc link is e =
    let from = (from_end arc.down link).router in
    let sum = is_sum (from_end arc.down link).cost (distance_at ds from) (distance_at ds (to_end arc.down link).router) in
    let a = both link.adjacency (not (holds failed arc.link) && (not (owns net from prefix) && sum)) e in
    let b = both (not (holds failed arc.link)) (not (owns net from prefix) && sum) a.1 in
    let c = both (not (owns net from prefix)) sum b.1 in
    let s = sum_from (from_end arc.down link).cost (distance_at ds from) (distance_at ds (to_end arc.down link).router) c.1 in
    record {
      tight = record {
        cost = (from_end arc.down link).cost;
        crosses = record { link = link; is = is; adjacency = a.0; up = not_from (holds failed arc.link) b.0; from = refl; to = refl; costs = refl };
        distance = s.0;
        far = s.1;
        near = s.2;
      };
      no_owner = not_from (owns net from prefix) c.0;
    }

hop_to_link : (net : NetValue) (prefix : PrefixValue) (failed : List ℕ) (ds : List (Option ℕ)) (arc : Arc) (u v : ℕ) (hop : IsHop net prefix failed ds arc u v) → hops_over net prefix failed ds arc hop.tight.crosses.link ≡ true
hop_to_link net prefix failed ds arc u v hop =
    let c = hop.tight.crosses in
    let link = c.link in
    let from = (from_end arc.down link).router in
    let to = (to_end arc.down link).router in
    let cost = (from_end arc.down link).cost in
    let sum = is_sum cost (distance_at ds from) (distance_at ds to) in
    let far : distance_at ds to ≡ Some hop.tight.distance = subst (λ (x : ℕ). distance_at ds x ≡ Some hop.tight.distance) (sym c.to) hop.tight.far in
    let near : distance_at ds from ≡ Some (cost + hop.tight.distance) = subst (λ (x : ℕ). distance_at ds x ≡ Some (cost + hop.tight.distance)) (sym c.from)
    (subst (λ (n : ℕ). distance_at ds u ≡ Some (n + hop.tight.distance)) (sym c.costs) hop.tight.near) in
    pair link.adjacency (not (holds failed arc.link) && (not (owns net from prefix) && sum)) c.adjacency
    (pair (not (holds failed arc.link)) (not (owns net from prefix) && sum) (not_to (holds failed arc.link) c.up)
    (pair (not (owns net from prefix)) sum (not_to (owns net from prefix) (subst (λ (x : ℕ). owns net x prefix ≡ false) (sym c.from) hop.no_owner))
    (sum_to cost hop.tight.distance (distance_at ds from) (distance_at ds to) far near)))

pub hop_arc_from : (net : NetValue) (prefix : PrefixValue) (failed : List ℕ) (ds : List (Option ℕ)) (arc : Arc) → is_hop net prefix failed ds arc ≡ true → IsNextHop net prefix failed ds arc
unfolding is_hop
hop_arc_from net prefix failed ds arc e =
    let l = link_from (link_of net arc) (hops_over net prefix failed ds arc) e in
    ((from_end arc.down l.0).router, (to_end arc.down l.0).router, hop_from_link net prefix failed ds arc l.0 l.1 l.2)

pub hop_arc_to : (net : NetValue) (prefix : PrefixValue) (failed : List ℕ) (ds : List (Option ℕ)) (arc : Arc) (u v : ℕ) → IsHop net prefix failed ds arc u v → is_hop net prefix failed ds arc ≡ true
unfolding is_hop
hop_arc_to net prefix failed ds arc u v hop =
    ap (λ (o : Option Link). option_map_or (hops_over net prefix failed ds arc) o false) hop.tight.crosses.is ∙ hop_to_link net prefix failed ds arc u v hop

same_bool : (a b : Bool) → (IsTrue a → b ≡ true) → (b ≡ true → IsTrue a) → a ≡ b
same_bool true b f g = sym (f refl)
same_bool false true f g = g refl
same_bool false false f g = refl

pub is_hop_by : (net : NetValue) (prefix : PrefixValue) (failed : List ℕ) (ds : List (Option ℕ)) (arc : Arc) (result : Bool) → IsTrue result ↔ IsNextHop net prefix failed ds arc → result ≡ is_hop net prefix failed ds arc
is_hop_by net prefix failed ds arc result is = same_bool result (is_hop net prefix failed ds arc)
    (λ t. let hop = is.0 t in hop_arc_to net prefix failed ds arc hop.0 hop.1 hop.2)
    (λ e. is.1 (hop_arc_from net prefix failed ds arc e))

-- the ends of an arc that crosses
pub crossed_ends : (net : NetValue) (failed : List ℕ) (arc : Arc) (u v cost : ℕ) → Crosses net failed arc u v cost → (sender_of net arc ≡ Some u) × (receiver_of net arc ≡ Some v)
crossed_ends net failed arc u v cost c = (
  ap (λ (x : Option Link). option_map (λ (l : Link). (from_end arc.down l).router) x) c.is ∙ ap (λ (x : ℕ). Some x) c.from,
  ap (λ (x : Option Link). option_map (λ (l : Link). (to_end arc.down l).router) x) c.is ∙ ap (λ (x : ℕ). Some x) c.to,
)

-- ---- a set with one router more

with_one : (test : ℕ → Bool) (to set : ℕ) → ((v : ℕ) → test v ≡ (v == to)) → IsWith test set (bit_or set (2 ^ to))
with_one test to set is = record { members = λ v. has_with set to v ∙ ap (λ b. has set v || b) (sym (is v)) }

with_none : (test : ℕ → Bool) (set : ℕ) → ((v : ℕ) → test v ≡ false) → IsWith test set set
with_none test set never = record { members = λ v. sym (ap (λ b. has set v || b) (never v) ∙ or_false (has set v)) } where
  or_false : (b : Bool) → (b || false) ≡ b
  or_false true = refl
  or_false false = refl

and_four : (a b c : Bool) → a ≡ true → c ≡ true → ((a && b) && c) ≡ b
and_four a b c e f = rw (e, f) (and_true b) where
  and_true : (x : Bool) → (x && true) ≡ x
  and_true true = refl
  and_true false = refl

flipped : (x y : ℕ) → (x == y) ≡ (y == x)
flipped x y = grind (arith, nat_tests)

first_off : (a b c : Bool) → a ≡ false → ((a && b) && c) ≡ false
first_off a b c e = rw e refl

second_off : (a b c : Bool) → b ≡ false → ((a && b) && c) ≡ false
second_off true b c e = rw e refl
second_off false b c e = refl

last_off : (a b : Bool) → b ≡ false → (a && b) ≡ false
last_off true b e = e
last_off false b e = refl

pub with_receiver : (net : NetValue) (prefix : PrefixValue) (failed : List ℕ) (ds : List (Option ℕ)) (u from to set : ℕ) (arc : Arc) → sender_of net arc ≡ Some from → receiver_of net arc ≡ Some to →
    (from == u) ≡ true → is_hop net prefix failed ds arc ≡ true → IsWith (λ v. hop_over net prefix failed ds u v arc) set (bit_or set (2 ^ to))
with_receiver net prefix failed ds u from to set arc sender receiver here hop =
    with_one (λ v. hop_over net prefix failed ds u v arc) to set (λ v.
    and_four (same_router (sender_of net arc) (Some u)) (same_router (receiver_of net arc) (Some v)) (is_hop net prefix failed ds arc)
    (ap (λ (o : Option ℕ). same_router o (Some u)) sender ∙ here) hop ∙
    ap (λ (o : Option ℕ). same_router o (Some v)) receiver ∙ flipped to v)

pub same_without_hop : (net : NetValue) (prefix : PrefixValue) (failed : List ℕ) (ds : List (Option ℕ)) (u from set : ℕ) (arc : Arc) → sender_of net arc ≡ Some from →
    ((from == u) && is_hop net prefix failed ds arc) ≡ false → IsWith (λ v. hop_over net prefix failed ds u v arc) set set
same_without_hop net prefix failed ds u from set arc sender not_so =
    with_none (λ v. hop_over net prefix failed ds u v arc) set (λ v. elim (true_or_false (is_hop net prefix failed ds arc)) [
      | inl hop ↦ first_off (same_router (sender_of net arc) (Some u)) (same_router (receiver_of net arc) (Some v)) (is_hop net prefix failed ds arc)
          (ap (λ (o : Option ℕ). same_router o (Some u)) sender ∙ other (from == u) (is_hop net prefix failed ds arc) not_so hop)
      | inr none ↦ last_off (goes net arc u v) (is_hop net prefix failed ds arc) none
    ]) where
      other : (a b : Bool) → (a && b) ≡ false → b ≡ true → a ≡ false
      other true b e f = absurd (off b f e)
      other false b e f = refl

pub same_without_ends : (net : NetValue) (prefix : PrefixValue) (failed : List ℕ) (ds : List (Option ℕ)) (u set : ℕ) (arc : Arc) → (sender_of net arc ≡ None) ⊎ (receiver_of net arc ≡ None) →
    IsWith (λ v. hop_over net prefix failed ds u v arc) set set
same_without_ends net prefix failed ds u set arc (inl none) = with_none (λ v. hop_over net prefix failed ds u v arc) set
    (λ v. first_off (same_router (sender_of net arc) (Some u)) (same_router (receiver_of net arc) (Some v)) (is_hop net prefix failed ds arc) (ap (λ (o : Option ℕ). same_router o (Some u)) none))
same_without_ends net prefix failed ds u set arc (inr none) = with_none (λ v. hop_over net prefix failed ds u v arc) set
    (λ v. second_off (same_router (sender_of net arc) (Some u)) (same_router (receiver_of net arc) (Some v)) (is_hop net prefix failed ds arc) (ap (λ (o : Option ℕ). same_router o (Some v)) none))

pub with_sender : (net : NetValue) (prefix : PrefixValue) (failed : List ℕ) (known : CaseValue) (u from to set : ℕ) (arc : Arc) → sender_of net arc ≡ Some from → receiver_of net arc ≡ Some to →
    (to == u) ≡ true → may_bring net prefix failed known from arc ≡ true → IsWith (λ v. back_over net prefix failed known u v arc) set (bit_or set (2 ^ from))
with_sender net prefix failed known u from to set arc sender receiver here brings =
    with_one (λ v. back_over net prefix failed known u v arc) from set (λ v. by_sender v (true_or_false (from == v))) where
      by_sender : (v : ℕ) → ((from == v) ≡ true) ⊎ ((from == v) ≡ false) → back_over net prefix failed known u v arc ≡ (v == from)
      by_sender v (inl same) =
          let e : from ≡ v = same_number from v same in
          pair (goes net arc v u) (may_bring net prefix failed known v arc) (goes_to net arc v u (sender ∙ ap Some e) (receiver ∙ ap Some (same_number to u here)))
          (subst (λ (x : ℕ). may_bring net prefix failed known x arc ≡ true) e brings) ∙ sym (flipped v from ∙ same)
      by_sender v (inr other) =
          first_off (same_router (sender_of net arc) (Some v)) (same_router (receiver_of net arc) (Some u)) (may_bring net prefix failed known v arc)
          (ap (λ (o : Option ℕ). same_router o (Some v)) sender ∙ other) ∙ sym (flipped v from ∙ other)

pub same_without_route : (net : NetValue) (prefix : PrefixValue) (failed : List ℕ) (known : CaseValue) (u from to set : ℕ) (arc : Arc) → sender_of net arc ≡ Some from → receiver_of net arc ≡ Some to →
    ((to == u) && may_bring net prefix failed known from arc) ≡ false → IsWith (λ v. back_over net prefix failed known u v arc) set set
same_without_route net prefix failed known u from to set arc sender receiver not_so =
    with_none (λ v. back_over net prefix failed known u v arc) set (λ v. elim (true_or_false (back_over net prefix failed known u v arc)) [
      | inl it_is ↦ (
          let b = both (goes net arc v u) (may_bring net prefix failed known v arc) it_is in
          let g = goes_from net arc v u b.0 in
          let from_v : from ≡ v = unwrap from v (sym sender ∙ g.0) in
          let to_u : to ≡ u = unwrap to u (sym receiver ∙ g.1) in
          absurd (off ((to == u) && may_bring net prefix failed known from arc)
          (pair (to == u) (may_bring net prefix failed known from arc) (rw to_u (equal_self u)) (subst (λ (x : ℕ). may_bring net prefix failed known x arc ≡ true) (sym from_v) b.1)) not_so))
      | inr none ↦ none
    ])

pub none_without_ends : (net : NetValue) (prefix : PrefixValue) (failed : List ℕ) (known : CaseValue) (u set : ℕ) (arc : Arc) → (sender_of net arc ≡ None) ⊎ (receiver_of net arc ≡ None) →
    IsWith (λ v. back_over net prefix failed known u v arc) set set
none_without_ends net prefix failed known u set arc (inl none) = with_none (λ v. back_over net prefix failed known u v arc) set
    (λ v. first_off (same_router (sender_of net arc) (Some v)) (same_router (receiver_of net arc) (Some u)) (may_bring net prefix failed known v arc) (ap (λ (o : Option ℕ). same_router o (Some v)) none))
none_without_ends net prefix failed known u set arc (inr none) = with_none (λ v. back_over net prefix failed known u v arc) set
    (λ v. second_off (same_router (sender_of net arc) (Some v)) (same_router (receiver_of net arc) (Some u)) (may_bring net prefix failed known v arc) (ap (λ (o : Option ℕ). same_router o (Some u)) none))

-- ---- gathered over the links

-- after the arcs of the first links
abbrev pub Gathered : (ℕ → Arc → Bool) → ℕ → ℕ → Type 0
Gathered test links set = IsWith (λ v. some_below links (some_way (test v))) 0 set

pub gathered_none : (test : ℕ → Arc → Bool) → Gathered test 0 0
gathered_none test = record { members = λ v. rw (has_none v) refl }

any_snoc : (test : ℕ → Bool) (at n : ℕ) → list_any test (range_with_len at (suc n)) ≡ (list_any test (range_with_len at n) || test (at + n))
any_snoc test at zero = or_false (test at) ∙ ap test (let e : at ≡ at + 0 = omega arith in e) where
  or_false : (b : Bool) → (b || false) ≡ b
  or_false true = refl
  or_false false = refl
any_snoc test at (suc n) =
    ap (λ b. test at || b) (any_snoc test (at + 1) n) ∙ regroup (test at) (list_any test (range_with_len (at + 1) n)) (test (at + 1 + n)) ∙
    ap (λ (m : ℕ). (test at || list_any test (range_with_len (at + 1) n)) || test m) (let e : at + 1 + n ≡ at + suc n = omega arith in e) where
      regroup : (a b c : Bool) → (a || (b || c)) ≡ ((a || b) || c)
      regroup true b c = refl
      regroup false b c = refl

some_more : (test : ℕ → Bool) (k : ℕ) → some_below (k + 1) test ≡ (some_below k test || test k)
some_more test k =
    ap (λ (n : ℕ). list_any test (range_with_len 0 n)) (let e : k + 1 ≡ suc k = omega arith in e) ∙ any_snoc test 0 k ∙
    ap (λ (n : ℕ). some_below k test || test n) (let e : 0 + k ≡ k = omega arith in e)

pub gathered_more : (test : ℕ → Arc → Bool) (links before more after : ℕ) → Gathered test links before → IsWith (λ v. test v (up_of links)) before more → IsWith (λ v. test v (down_of links)) more after →
    Gathered test (links + 1) after
gathered_more test links before more after was up down = record {
  members = λ v.
      down.members v ∙ ap (λ b. b || test v (down_of links)) (up.members v ∙ ap (λ b. b || test v (up_of links)) (was.members v ∙ ap (λ b. b || some_below links (some_way (test v))) (has_none v))) ∙
      regroup (some_below links (some_way (test v))) (test v (up_of links)) (test v (down_of links)) ∙ sym (some_more (some_way (test v)) links) ∙
      sym (ap (λ b. b || some_below (links + 1) (some_way (test v))) (has_none v));
} where
  regroup : (a b c : Bool) → ((a || b) || c) ≡ (a || (b || c))
  regroup true b c = refl
  regroup false b c = refl

pub gathered_all : (test : ℕ → Arc → Bool) (links count set : ℕ) → Gathered test links set → ((v : ℕ) → some_below links (some_way (test v)) ≡ true → v < count) →
    IsSetOf (λ v. some_below links (some_way (test v))) count set
gathered_all test links count set was low = record {
  only = λ v h. let e = at v h in (low v e, e);
  all = λ v l h. was.members v ∙ ap (λ b. b || some_below links (some_way (test v))) (has_none v) ∙ h;
} where
  at : (v : ℕ) → has set v ≡ true → some_below links (some_way (test v)) ≡ true
  at v h = sym (was.members v ∙ ap (λ b. b || some_below links (some_way (test v))) (has_none v)) ∙ h

-- ---- some arc

way_of : (test : Arc → Bool) (link : ℕ) (down : Bool) → test (record { link = link; down = down }) ≡ true → some_way test link ≡ true
way_of test link false e = left (test (up_of link)) (test (down_of link)) e
way_of test link true e = right (test (up_of link)) (test (down_of link)) e

pub some_arc_at : (net : NetValue) (test : Arc → Bool) (arc : Arc) → arc.link < length net.links → test arc ≡ true → some_arc net test ≡ true
some_arc_at net test arc low e = some_at (length net.links) (some_way test) arc.link low (way_of test arc.link arc.down e)

pub some_arc_from : (net : NetValue) (test : Arc → Bool) → some_arc net test ≡ true → (arc : Arc) × (test arc ≡ true)
some_arc_from net test e =
    let f = some_from (length net.links) (some_way test) e in
    elim (either (test (up_of f.0)) (test (down_of f.0)) f.2) [
      | inl up ↦ (up_of f.0, up)
      | inr down ↦ (down_of f.0, down)
    ]
