-- Solid routers: a set from which those that cannot stay are taken out until all stay.
use Rattle.std.proofs.Common.{ℕ, zero, suc, ◌≡◌, ◌≢◌, ◌+◌, ◌<◌, ◌&&◌, ◌||◌, ◌⊎◌, inl, inr, ◌↔◌, IsTrue, Bool, true, false, not, arith, ap, sym, ◌∙◌, refl}
use Rattle.std.proofs.lemmas.Bool.Decides.{nat_tests}
use Rattle.std.proofs.lemmas.Nat.Bits.{bit_at_ones}
use Rattle.net_types.specs.Sets.{IsPart, has}
use Rattle.net_types.specs.Turns.{set_of}
use Rattle.net_types.proofs.SetLemmas.{part_le}
use Rattle.implication.specs.View.{View, IsInside, every_below, surely_learned}
use Rattle.implication.specs.Implied.{IsSolidSet, HasSureRoute}
use Rattle.implication.specs.OnTheWay.{IsSetOf, hops_in, stays, AreSolid, has_sure_route}
use Rattle.implication.proofs.SetLemmas.{every_at, every_from, made, true_or_false}

-- ---- hops

either : (a b : Bool) → (not a || b) ≡ true → a ≡ true → b ≡ true
either a b h i = grind (arith, nat_tests)

or_not : (a b : Bool) → (a ≡ true → b ≡ true) → (not a || b) ≡ true
or_not true b h = let e = h refl in grind (arith, nat_tests)
or_not false b h = refl

pub hop_at : (view : View) (set u : ℕ) → IsInside view → hops_in view set u ≡ true → (v : ℕ) → view.hop u v ≡ true → has set v ≡ true
hop_at view set u inside h v hop = either (view.hop u v) (has set v) (every_at view.count (λ x. not (view.hop u x) || has set x) h v (inside.hops u v hop)) hop

pub hops_from : (view : View) (set u : ℕ) → ((v : ℕ) → v < view.count → view.hop u v ≡ true → has set v ≡ true) → hops_in view set u ≡ true
hops_from view set u h = every_from view.count (λ x. not (view.hop u x) || has set x) (λ v l. or_not (view.hop u v) (has set v) (λ hop. h v l hop))

-- ---- the falling set

-- every solid set is part of the set, and this is left of it next
pub record IsThinning (view : View) (set next : ℕ) : Type 0 where
  pub has_solid : (other : ℕ → Bool) → IsSolidSet view other → (u : ℕ) → u < view.count → other u ≡ true → has set u ≡ true
  pub left : IsSetOf (λ u. has set u && stays view set u) view.count next

stays_by : (a b c d : Bool) → (a ≡ true) ⊎ ((b ≡ false) × (c ≡ true) × (d ≡ true)) → (a || (not b && c && d)) ≡ true
stays_by true b c d h = refl
stays_by false b c d (inl h) = absurd (let e = h in cc)
stays_by false b c d (inr h) = let p = h.0 in let q = h.1 in let r = h.2 in grind (arith, nat_tests)

by_stays : (a b c d : Bool) → (a || (not b && c && d)) ≡ true → (a ≡ true) ⊎ ((b ≡ false) × (c ≡ true) × (d ≡ true))
by_stays true b c d h = inl refl
by_stays false false true true h = inr (refl, refl, refl)
by_stays false true c d h = absurd (grind (arith, nat_tests))
by_stays false false false d h = absurd (grind (arith, nat_tests))
by_stays false false true false h = absurd (grind (arith, nat_tests))

and_left : (a b : Bool) → (a && b) ≡ true → a ≡ true
and_left a b h = grind (arith, nat_tests)

and_right : (a b : Bool) → (a && b) ≡ true → b ≡ true
and_right a b h = grind (arith, nat_tests)

and_both : (a b : Bool) → a ≡ true → b ≡ true → (a && b) ≡ true
and_both a b h i = grind (arith, nat_tests)

pub thinning_begins : (view : View) (next : ℕ) → IsInside view → IsSetOf (λ u. has 18446744073709551615 u && stays view 18446744073709551615 u) view.count next → IsThinning view 18446744073709551615 next
thinning_begins view next inside left = record {
  has_solid = λ other solid u l h. (let few = inside.few in let low : u < 64 = omega arith in let o = bit_at_ones 64 u low in grind (arith, nat_tests));
  left = left;
}

pub thinning_goes_on : (view : View) (set next later : ℕ) → IsInside view → IsThinning view set next → IsSetOf (λ u. has next u && stays view next u) view.count later → IsThinning view next later
thinning_goes_on view set next later inside was left = record {
  has_solid = λ other solid u l h. was.left.all u l (and_both (has set u) (stays view set u) (was.has_solid other solid u l h)
      (stays_by (view.owner u) (view.may_learn u) (view.has_distance u) (hops_in view set u) (elim (solid.each u h) [
        | inl owner ↦ inl owner
        | inr rest ↦ inr (rest.0, rest.1, hops_from view set u (λ v m hop. was.has_solid other solid v m (rest.2 v hop)))
      ])));
  left = left;
}

pub thinning_falls : (view : View) (set next : ℕ) → IsThinning view set next → next ≢ set → next < set
thinning_falls view set next was not =
    let l = part_le next set (record { members = λ x h. and_left (has set x) (stays view set x) (was.left.only x h).1 }) in grind arith

pub thinning_ends : (view : View) (set next : ℕ) → IsInside view → IsThinning view set next → next ≡ set → AreSolid view set
thinning_ends view set next inside was same = record {
  only = λ u h. ((λ x. has set x), solid_set, h);
  all = λ u l (other, solid, h). was.has_solid other solid u l h;
} where
  solid_set : IsSolidSet view (λ x. has set x)
  solid_set = record {
    each = λ u h. elim (by_stays (view.owner u) (view.may_learn u) (view.has_distance u) (hops_in view set u) (and_right (has set u) (stays view set u) (was.left.only u (rw same h)).1)) [
      | inl owner ↦ inl owner
      | inr rest ↦ inr (rest.0, rest.1, hop_at view set u inside rest.2)
    ];
  }

-- ---- sure routes

sure_by : (a c d e : Bool) → (a || (c && d) || e) ≡ true → (a ≡ true) ⊎ ((c ≡ true) × (d ≡ true)) ⊎ (e ≡ true)
sure_by true c d e h = inl refl
sure_by false true true e h = inr (inl (refl, refl))
sure_by false c d true h = inr (inr refl)
sure_by false false d false h = absurd (grind (arith, nat_tests))
sure_by false true false false h = absurd (grind (arith, nat_tests))

by_sure : (a c d e : Bool) → (a ≡ true) ⊎ ((c ≡ true) × (d ≡ true)) ⊎ (e ≡ true) → (a || (c && d) || e) ≡ true
by_sure a c d e (inl h) = grind (arith, nat_tests)
by_sure a c d e (inr (inl h)) = let p = h.0 in let q = h.1 in grind (arith, nat_tests)
by_sure a c d e (inr (inr h)) = grind (arith, nat_tests)

pub sure_from : (view : View) (solid u : ℕ) → IsInside view → AreSolid view solid → has_sure_route view solid u ≡ true → HasSureRoute view u
sure_from view solid u inside is h = elim (sure_by (view.owner u) (view.has_distance u) (hops_in view solid u) (surely_learned view u) h) [
  | inl owner ↦ inl owner
  | inr (inl hops) ↦ inr (inl (hops.0, λ v hop. is.only v (hop_at view solid u inside hops.1 v hop)))
  | inr (inr sure) ↦ inr (inr sure)
]

pub to_sure : (view : View) (solid u : ℕ) → AreSolid view solid → HasSureRoute view u → has_sure_route view solid u ≡ true
to_sure view solid u is h = by_sure (view.owner u) (view.has_distance u) (hops_in view solid u) (surely_learned view u) (elim h [
  | inl owner ↦ inl owner
  | inr (inl hops) ↦ inr (inl (hops.0, hops_from view solid u (λ v l hop. is.all v l (hops.1 v hop))))
  | inr (inr sure) ↦ inr (inr sure)
])

-- ---- the test of the hops

-- all hops are in a set where the set of hops is part of it
pub part_is_hops_in : (view : View) (u hops set : ℕ) (result : Bool) → IsInside view → IsSetOf (view.hop u) view.count hops → IsTrue result ↔ IsPart hops set → result ≡ hops_in view set u
part_is_hops_in view u hops set result inside is part = elim (true_or_false result) [
  | inl is_so ↦ is_so ∙ sym (hops_from view set u (λ v l hop. (part.0 (as_true result is_so)).members v (is.all v l hop)))
  | inr not_so ↦ not_so ∙ sym (elim (true_or_false (hops_in view set u)) [
    | inl all ↦ absurd (off result (from_true result (part.1 (record { members = λ v h. hop_at view set u inside all v (is.only v h).1 }))) not_so)
    | inr none ↦ none
  ])
] where
  as_true : (b : Bool) → b ≡ true → IsTrue b
  as_true b h = grind (arith, nat_tests)

  from_true : (b : Bool) → IsTrue b → b ≡ true
  from_true b h = grind (arith, nat_tests)

  off : (b : Bool) → b ≡ true → b ≡ false → ⊥
  off b h i = cc

-- ---- the loop, whose sets are made

pub thinning_starts : (view : View) (next : ℕ) → IsInside view → next ≡ set_of (λ u. has 18446744073709551615 u && stays view 18446744073709551615 u) view.count → IsThinning view 18446744073709551615 next
thinning_starts view next inside is = thinning_begins view next inside (made (λ u. has 18446744073709551615 u && stays view 18446744073709551615 u) view.count next is)

pub thinning_more : (view : View) (set next later : ℕ) → IsInside view → IsThinning view set next → later ≡ set_of (λ u. has next u && stays view next u) view.count → IsThinning view next later
thinning_more view set next later inside was is = thinning_goes_on view set next later inside was (made (λ u. has next u && stays view next u) view.count later is)
