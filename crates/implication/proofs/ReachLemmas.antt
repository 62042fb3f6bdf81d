-- What the start leads to: the set grows until it has all that its members lead to.
use Rattle.std.proofs.Common.{ℕ, ◌≡◌, ◌≢◌, ◌+◌, ◌-◌, ◌^◌, ◌<◌, ◌≤◌, ◌==◌, ◌&&◌, ◌||◌, ◌⊎◌, inl, inr, Bool, true, false, not, bit_or, arith, sym, subst, ◌∙◌, refl}
use Rattle.std.proofs.lemmas.Bool.Decides.{nat_tests}
use Rattle.std.proofs.lemmas.Nat.{le_or_l}
use Rattle.net_types.specs.Sets.{has}
use Rattle.implication.specs.Closed.{IsMember}
use Rattle.implication.specs.Implied.{reach_leads, leads_around}
use Rattle.implication.specs.View.{View, IsInside, surely_learned}
use Rattle.implication.specs.OnTheWay.{IsSetOf, AreAfter, IsReached, leads}
use Rattle.implication.specs.declared.ways.Way.{Way}
use Rattle.implication.specs.declared.ways.Way.TheVariants.{Back, Around}
use Rattle.net_types.proofs.TurnLemmas.{has_none, has_single}
use Rattle.implication.proofs.SetLemmas.{earlier, empty_of, in_left, in_one, in_right, set_low, union_of}

-- ---- what the members lead to

pub after_none : (leads : ℕ → ℕ → Bool) (count before : ℕ) → AreAfter leads count before 0 0
after_none leads count before = record {
  only = λ v h. absurd (let e = has_none v in cc);
  all = λ u v l m h i. absurd (omega arith);
}

pub after_same : (leads : ℕ → ℕ → Bool) (count before k set : ℕ) → has before k ≡ false → AreAfter leads count before k set → AreAfter leads count before (k + 1) set
after_same leads count before k set not was = record {
  only = was.only;
  all = λ u v l m h i. elim (earlier u k l) [
    | inl same ↦ absurd (let e : has before k ≡ true = subst (λ (n : ℕ). has before n ≡ true) same h in cc)
    | inr less ↦ was.all u v less m h i
  ];
}

pub after_more : (leads : ℕ → ℕ → Bool) (count before k set new : ℕ) → has before k ≡ true → IsSetOf (leads k) count new → AreAfter leads count before k set → AreAfter leads count before (k + 1) (bit_or set new)
after_more leads count before k set new is found was = record {
  only = λ v h. elim (in_one set new v h) [
    | inl old ↦ was.only v old
    | inr fresh ↦ (let f = found.only v fresh in (f.0, (k, is, f.1)))
  ];
  all = λ u v l m h i. elim (earlier u k l) [
    | inl same ↦ in_right set new v (found.all v m (subst (λ (n : ℕ). leads n v ≡ true) same i))
    | inr less ↦ in_left set new v (was.all u v less m h i)
  ];
}

-- ---- the growing set

-- what a number below the count leads to is below the count
pub record StaysBelow (leads : ℕ → ℕ → Bool) (count : ℕ) : Type 0 where
  pub few : count ≤ 64
  pub below : (u v : ℕ) → leads u v ≡ true → v < count

-- how the growing stands: the set, and the set with what it leads to
pub record IsGrowing (leads : ℕ → ℕ → Bool) (count start set next : ℕ) : Type 0 where
  pub begins : has set start ≡ true
  pub below : (u : ℕ) → has set u ≡ true → u < count
  pub members : (u : ℕ) → has set u ≡ true → IsMember leads start u
  pub grown : (found : ℕ) × AreAfter leads count set count found × (next ≡ bit_or set found)

pub growing_begins : (leads : ℕ → ℕ → Bool) (count start set found next : ℕ) → start < count → set ≡ bit_or 0 (2 ^ start) → AreAfter leads count set count found → next ≡ bit_or set found → IsGrowing leads count start set next
growing_begins leads count start set found next low is after made = record {
  begins = rw is (in_right 0 (2 ^ start) start (let e = has_single start start in grind (arith, nat_tests)));
  below = λ u h. (let e = only_start u h in omega arith);
  members = λ u h. (λ other closed. subst (λ (n : ℕ). other n ≡ true) (sym (only_start u h)) closed.begins);
  grown = (found, after, made);
} where
  only_start : (u : ℕ) → has set u ≡ true → u ≡ start
  only_start u h = elim (in_one 0 (2 ^ start) u (rw (← is) h)) [
    | inl none ↦ absurd (let e = has_none u in cc)
    | inr it ↦ (let e = has_single start u in grind (arith, nat_tests))
  ]

pub growing_goes_on : (leads : ℕ → ℕ → Bool) (count start set next found later : ℕ) → IsGrowing leads count start set next → AreAfter leads count next count found → later ≡ bit_or next found → IsGrowing leads count start next later
growing_goes_on leads count start set next found later was after made = record {
  begins = rw was.grown.2 (in_left set was.grown.0 start was.begins);
  below = λ u h. elim (in_one set was.grown.0 u (rw (← was.grown.2) h)) [
    | inl old ↦ was.below u old
    | inr new ↦ (was.grown.1.only u new).0
  ];
  members = λ u h. elim (in_one set was.grown.0 u (rw (← was.grown.2) h)) [
    | inl old ↦ was.members u old
    | inr new ↦ (let f = (was.grown.1.only u new).1 in λ other closed. closed.goes_on f.0 u (was.members f.0 f.1 other closed) f.2)
  ];
  grown = (found, after, made);
}

pub growing_ends : (leads : ℕ → ℕ → Bool) (count start set next : ℕ) → StaysBelow leads count → IsGrowing leads count start set next → next ≡ set → IsReached leads start set
growing_ends leads count start set next stays was same = record {
  only = was.members;
  all = λ u member. member (λ x. has set x) (record {
    begins = was.begins;
    goes_on = λ x y h l. rw (sym same ∙ was.grown.2) (in_right set was.grown.0 y (was.grown.1.all x y (was.below x h) (stays.below x y l) h l));
  });
}

pub growing_rises : (leads : ℕ → ℕ → Bool) (count start set next : ℕ) → StaysBelow leads count → IsGrowing leads count start set next → next ≢ set → 18446744073709551615 - next < 18446744073709551615 - set
growing_rises leads count start set next stays was not =
    let up : set ≤ next = rw was.grown.2 (le_or_l set was.grown.0) in
    let low : next ≤ 18446744073709551615 = set_low next next_low in
    grind arith where
      next_low : (x : ℕ) → has next x ≡ true → x < 64
      next_low x h = let few = stays.few in elim (in_one set was.grown.0 x (rw (← was.grown.2) h)) [
        | inl old ↦ (let b = was.below x old in omega arith)
        | inr new ↦ (let b = (was.grown.1.only x new).0 in omega arith)
      ]

-- ---- the ways

pub reach_below : (view : View) → IsInside view → StaysBelow (reach_leads view) view.count
reach_below view inside = record { few = inside.few; below = λ u v h. inside.backs u v (by_back (view.owner u) (view.back u v) h) } where
  by_back : (a b : Bool) → (not a && b) ≡ true → b ≡ true
  by_back a b h = grind (arith, nat_tests)

pub around_below : (view : View) (via : ℕ) (excepting : Bool) → IsInside view → StaysBelow (leads_around view via excepting) view.count
around_below view via excepting inside = record {
  few = inside.few;
  below = λ u v h. elim (by_either (u == via) (view.owner u) (view.back u v) (excepting && view.must_have u via) (surely_learned view u) (view.hop u v) h) [
    | inl back ↦ inside.backs u v back
    | inr hop ↦ inside.hops u v hop
  ];
} where
  by_either : (a b c d e f : Bool) → (not a && not b && ((c && not d) || (not e && f))) ≡ true → (c ≡ true) ⊎ (f ≡ true)
  by_either a b true d e f h = inl refl
  by_either a b false d e true h = inr refl
  by_either a b false d e false h = grind (arith, nat_tests)

pub stays_below : (view : View) (way : Way) → IsInside view → StaysBelow (leads view way) view.count
stays_below view Back inside = reach_below view inside
stays_below view (Around via excepting) inside = around_below view via excepting inside

-- ---- what is put together of steps back and hops

-- past neither the waypoint nor an owner
pub around_of : (view : View) (via u : ℕ) (excepting : Bool) (a b set : ℕ) (stops : Bool) → stops ≡ (u == via || view.owner u) → stops ≡ false → IsSetOf (λ v. view.back u v && not (excepting && view.must_have u via)) view.count a → IsSetOf (λ v. not (surely_learned view u) && view.hop u v) view.count b → set ≡ bit_or a b → IsSetOf (leads_around view via excepting u) view.count set
around_of view via u excepting a b set stops stop is_not backs hops is =
    rw is (union_of (λ v. view.back u v && not (excepting && view.must_have u via)) (λ v. not (surely_learned view u) && view.hop u v) (leads_around view via excepting u) view.count a b
    (λ v. past (u == via) (view.owner u) ((view.back u v && not (excepting && view.must_have u via)) || (not (surely_learned view u) && view.hop u v)) (sym stop ∙ is_not)) backs hops) where
      past : (x y z : Bool) → (x || y) ≡ false → (not x && not y && z) ≡ z
      past x y z h = grind (arith, nat_tests)

pub around_none : (view : View) (via u : ℕ) (excepting : Bool) (stops : Bool) → stops ≡ (u == via || view.owner u) → stops ≡ true → IsSetOf (leads_around view via excepting u) view.count 0
around_none view via u excepting stops stop is = empty_of (leads_around view via excepting u) view.count
    (λ v. past (u == via) (view.owner u) ((view.back u v && not (excepting && view.must_have u via)) || (not (surely_learned view u) && view.hop u v)) (sym stop ∙ is)) where
      past : (x y z : Bool) → (x || y) ≡ true → (not x && not y && z) ≡ false
      past x y z h = grind (arith, nat_tests)
