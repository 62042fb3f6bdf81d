-- What is in every closed set is what some steps lead to.
use Rattle.std.proofs.Common.{ℕ, zero, suc, ◌≡◌, ◌≢◌, ◌+◌, ◌-◌, ◌^◌, ◌<◌, ◌≤◌, ◌&&◌, not, ◌⊎◌, inl, inr, ◌↔◌, Bool, true, cond, bit_or, List, [], ◌∷◌, ◌++◌, arith, sym, subst, refl}
use Rattle.std.proofs.lemmas.Bool.Decides.{nat_tests}
use Rattle.std.proofs.lemmas.Nat.{le_or_l}
use Rattle.net_types.specs.Sets.{has}
use Rattle.implication.specs.View.{View, IsInside, every_below, owners_plain}
use Rattle.implication.specs.Closed.{IsClosed, IsMember}
use Rattle.implication.specs.Implied.{reach_leads, waypoint_leads}
use Rattle.implication.specs.Laws.{IsTrail, ReachTrails, WaypointTrails}
use Rattle.implication.specs.OnTheWay.{IsSetOf}
use Rattle.implication.specs.declared.ways.Way.TheVariants.{Back, Around}
use Rattle.net_types.specs.Turns.{set_of}
use Rattle.net_types.proofs.TurnLemmas.{has_none}
use Rattle.implication.proofs.SetLemmas.{has_with, in_left, in_one, in_right, made, set_low}
use Rattle.implication.proofs.ReachLemmas.{StaysBelow, stays_below}
use Rattle.implication.proofs.WalkLemmas.{member_on, member_start}
use Rattle.implication.proofs.MeaningLemmas.{picked_from, picked_to}

trail_more : (leads : ℕ → ℕ → Bool) (ws : List ℕ) (u v x : ℕ) → IsTrail leads ws u v → leads v x ≡ true → IsTrail leads (ws ++ (x ∷ [])) u x
trail_more leads [] u v x h on = (rw h on, refl)
trail_more leads (w ∷ ws) u v x h on = (h.0, trail_more leads ws w v x h.1 on)

-- some set has just the numbers below k that pass the test
some_set : (test : ℕ → Bool) (k : ℕ) → (set : ℕ) × IsSetOf test k set
some_set test k = (set_of test k, made test k (set_of test k) refl)

-- each member is led to by some steps
record HasTrails (leads : ℕ → ℕ → Bool) (count start set : ℕ) : Type 0 where
  begins : has set start ≡ true
  below : (u : ℕ) → has set u ≡ true → u < count
  trail : (u : ℕ) → has set u ≡ true → (ws : List ℕ) × IsTrail leads ws start u

and_left : (a b : Bool) → (a && b) ≡ true → a ≡ true
and_left a b h = grind (arith, nat_tests)

and_right : (a b : Bool) → (a && b) ≡ true → b ≡ true
and_right a b h = grind (arith, nat_tests)

and_both : (a b : Bool) → a ≡ true → b ≡ true → (a && b) ≡ true
and_both a b h i = grind (arith, nat_tests)

-- what a member leads to
abbrev led : (ℕ → ℕ → Bool) → ℕ → ℕ → ℕ → Bool
led leads count set v = not (every_below count (λ u. not (has set u && leads u v)))

trails_more : (leads : ℕ → ℕ → Bool) (count start set found : ℕ) → HasTrails leads count start set → IsSetOf (led leads count set) count found → HasTrails leads count start (bit_or set found)
trails_more leads count start set found was is = record {
  begins = in_left set found start was.begins;
  below = λ u h. elim (in_one set found u h) [
    | inl old ↦ was.below u old
    | inr new ↦ (is.only u new).0
  ];
  trail = λ u h. elim (in_one set found u h) [
    | inl old ↦ was.trail u old
    | inr new ↦ from_led u (picked_from count u (λ w x. has set w && leads w x) (is.only u new).1)
  ];
} where
  from_led : (u : ℕ) → ((w : ℕ) × (w < count) × ((has set w && leads w u) ≡ true)) → (ws : List ℕ) × IsTrail leads ws start u
  from_led u (w, low, h) =
      let t = was.trail w (and_left (has set w) (leads w u) h) in
      (t.0 ++ (u ∷ []), trail_more leads t.0 start w u t.1 (and_right (has set w) (leads w u) h))

trails_end : (leads : ℕ → ℕ → Bool) (count start set found : ℕ) → StaysBelow leads count → HasTrails leads count start set → IsSetOf (led leads count set) count found → bit_or set found ≡ set → IsClosed leads start (λ x. has set x)
trails_end leads count start set found stays was is same = record {
  begins = was.begins;
  goes_on = λ u v h l. rw (sym same) (in_right set found v (is.all v (stays.below u v l) (picked_to count v u (λ w x. has set w && leads w x) (was.below u h) (and_both (has set u) (leads u v) h l))));
}

same_or_not : (a b : ℕ) → (a ≡ b) ⊎ (a ≢ b)
same_or_not a b = grind arith

-- some closed set has only members that some steps lead to
trails_within : (leads : ℕ → ℕ → Bool) (count start : ℕ) → StaysBelow leads count → (k set : ℕ) → 18446744073709551615 - set < k → HasTrails leads count start set → (found : ℕ) × HasTrails leads count start found × IsClosed leads start (λ x. has found x)
trails_within leads count start stays zero set l was = absurd (omega arith)
trails_within leads count start stays (suc k) set l was =
    let after = some_set (led leads count set) count in
    let more = trails_more leads count start set after.0 was after.1 in
    let up : set ≤ bit_or set after.0 = le_or_l set after.0 in
    let few = stays.few in
    let low : bit_or set after.0 ≤ 18446744073709551615 = set_low (bit_or set after.0) (λ x h. let b = more.below x h in omega arith) in
    elim (same_or_not (bit_or set after.0) set) [
      | inl same ↦ (set, was, trails_end leads count start set after.0 stays was after.1 same)
      | inr grown ↦ trails_within leads count start stays k (bit_or set after.0) (omega arith) more
    ]

one_trail : (leads : ℕ → ℕ → Bool) (count start : ℕ) → start < count → HasTrails leads count start (bit_or 0 (2 ^ start))
one_trail leads count start low = record {
  begins = (let e = has_with 0 start start in grind (arith, nat_tests));
  below = λ u h. (let e = only u h in omega arith);
  trail = λ u h. ([], sym (only u h));
} where
  only : (u : ℕ) → has (bit_or 0 (2 ^ start)) u ≡ true → u ≡ start
  only u h = let e = has_with 0 start u in let n = has_none u in grind (arith, nat_tests)

pub trail_of : (leads : ℕ → ℕ → Bool) (count start u : ℕ) → StaysBelow leads count → start < count → IsMember leads start u → (ws : List ℕ) × IsTrail leads ws start u
trail_of leads count start u stays low member =
    let s = trails_within leads count start stays 18446744073709551616 (bit_or 0 (2 ^ start)) (omega arith) (one_trail leads count start low) in
    s.1.trail u (member (λ x. has s.0 x) s.2)

pub member_along : (leads : ℕ → ℕ → Bool) (start : ℕ) (ws : List ℕ) (u v : ℕ) → IsMember leads start u → IsTrail leads ws u v → IsMember leads start v
member_along leads start [] u v is trail = subst (λ (x : ℕ). IsMember leads start x) trail is
member_along leads start (w ∷ ws) u v is trail = member_along leads start ws w v (member_on leads start u w is trail.0) trail.1

pub reach_trails : ReachTrails
reach_trails view start u inside low = (
  (λ member. trail_of (reach_leads view) view.count start u (stays_below view Back inside) low member),
  (λ (ws, trail). member_along (reach_leads view) start ws start u (member_start (reach_leads view) start) trail),
)

pub waypoint_trails : WaypointTrails
waypoint_trails view via start u inside low = (
  (λ member. trail_of (waypoint_leads view via) view.count start u (stays_below view (Around via (owners_plain view)) inside) low member),
  (λ (ws, trail). member_along (waypoint_leads view via) start ws start u (member_start (waypoint_leads view via) start) trail),
)
