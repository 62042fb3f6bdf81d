-- Sets that are turned until they settle: what a start leads to, and the solid routers; and the least member of a set.
use Rattle.std.proofs.Common.{ℕ, zero, suc, ◌≡◌, ◌≢◌, ◌+◌, ◌-◌, ◌^◌, ◌<◌, ◌≤◌, ◌&&◌, ◌⊎◌, inl, inr, Bool, true, false, cond, Option, Some, None, arith, sym, subst, ◌∙◌, refl}
use Rattle.std.specs.Prelude.{MatchOption}
use Rattle.std.specs.List.{find, range_with_len}
use Rattle.std.proofs.lemmas.Bool.Decides.{nat_tests}
use Rattle.std.proofs.lemmas.Nat.{le_or_l}
use Rattle.net_types.specs.Sets.{has}
use Rattle.net_types.specs.Turns.{set_of, turns}
use Rattle.net_types.proofs.TestLemmas.{equal_self, same_number}
use Rattle.net_types.proofs.TurnLemmas.{has_single, settles, turns-suc, turns-zero}
use Rattle.implication.specs.Closed.{IsLeast}
use Rattle.implication.specs.View.{IsInside, View, some_below}
use Rattle.implication.specs.OnTheWay.{AreAfter, AreSolid, IsReached, IsSetOf}
use Rattle.implication.proofs.SetLemmas.{made, off, set_low, some_at, some_from}
use Rattle.implication.proofs.ReachLemmas.{IsGrowing, StaysBelow, growing_ends, growing_goes_on}
use Rattle.implication.proofs.SolidLemmas.{IsThinning, thinning_ends, thinning_falls, thinning_more, thinning_starts}
use Rattle.desk_judge.specs.Answer.{full, kept, least, reached, solid, with_next}

and_left : (a b : Bool) → (a && b) ≡ true → a ≡ true
and_left a b h = grind (arith, nat_tests)

and_right : (a b : Bool) → (a && b) ≡ true → b ≡ true
and_right a b h = grind (arith, nat_tests)

and_both : (a b : Bool) → a ≡ true → b ≡ true → (a && b) ≡ true
and_both a b h i = grind (arith, nat_tests)

below_top : (s : ℕ) → s ≤ 18446744073709551615 → s < 2 ^ 64
below_top s h = omega arith

-- ---- what a start leads to

abbrev next_of : (ℕ → ℕ → Bool) → ℕ → ℕ → ℕ
next_of leads count set = set_of (λ v. some_below count (λ u. has set u && leads u v)) count

after_of : (leads : ℕ → ℕ → Bool) (count set : ℕ) → AreAfter leads count set count (next_of leads count set)
after_of leads count set = record {
  only = λ v h.
      let m = is.only v h in
      let f = some_from count (λ u. has set u && leads u v) m.1 in
      (m.0, (f.0, and_left (has set f.0) (leads f.0 v) f.2, and_right (has set f.0) (leads f.0 v) f.2));
  all = λ u v l m h i. is.all v m (some_at count (λ w. has set w && leads w v) u l (and_both (has set u) (leads u v) h i));
} where
  is : IsSetOf (λ v. some_below count (λ u. has set u && leads u v)) count (next_of leads count set)
  is = made (λ v. some_below count (λ u. has set u && leads u v)) count (next_of leads count set) refl

begins_at : (leads : ℕ → ℕ → Bool) (count start : ℕ) → start < count → IsGrowing leads count start (2 ^ start) (with_next leads count (2 ^ start))
begins_at leads count start low = record {
  begins = has_single start start ∙ equal_self start;
  below = λ u h. subst (λ (n : ℕ). n < count) (sym (only_start u h)) low;
  members = λ u h. (λ other closed. subst (λ (n : ℕ). other n ≡ true) (sym (only_start u h)) closed.begins);
  grown = (next_of leads count (2 ^ start), after_of leads count (2 ^ start), refl);
} where
  only_start : (u : ℕ) → has (2 ^ start) u ≡ true → u ≡ start
  only_start u h = same_number u start (sym (has_single start u) ∙ h)

abbrev grown_by : (ℕ → ℕ → Bool) → ℕ → ℕ → ℕ → ℕ
grown_by leads count start k = turns (with_next leads count) k (2 ^ start)

growing : (leads : ℕ → ℕ → Bool) (count start : ℕ) → start < count → (k : ℕ) → IsGrowing leads count start (grown_by leads count start k) (with_next leads count (grown_by leads count start k))
growing leads count start low zero =
    subst (λ (s : ℕ). IsGrowing leads count start s (with_next leads count s)) (sym (turns-zero (with_next leads count) (2 ^ start))) (begins_at leads count start low)
growing leads count start low (suc k) =
    let set = grown_by leads count start k in
    let next = with_next leads count set in
    subst (λ (s : ℕ). IsGrowing leads count start s (with_next leads count s)) (sym (turns-suc (with_next leads count) k (2 ^ start)))
    (growing_goes_on leads count start set next (next_of leads count next) (with_next leads count next) (growing leads count start low k) (after_of leads count next) refl)

grown_low : (leads : ℕ → ℕ → Bool) (count start : ℕ) → StaysBelow leads count → start < count → (k : ℕ) → grown_by leads count start k < 2 ^ 64
grown_low leads count start stays low k =
    below_top (grown_by leads count start k) (set_low (grown_by leads count start k) (λ x h. let few = stays.few in let b = (growing leads count start low k).below x h in omega arith))

grown_rises : (leads : ℕ → ℕ → Bool) (count start k : ℕ) → grown_by leads count start k ≤ grown_by leads count start (suc k)
grown_rises leads count start k =
    let set = grown_by leads count start k in
    subst (λ (s : ℕ). set ≤ s) (sym (turns-suc (with_next leads count) k (2 ^ start))) (le_or_l set (next_of leads count set))

pub reached_is : (leads : ℕ → ℕ → Bool) (count start : ℕ) → StaysBelow leads count → start < count → IsReached leads start (reached leads count start)
unfolding reached
reached_is leads count start stays low =
    let set = grown_by leads count start (2 ^ 64) in
    growing_ends leads count start set (with_next leads count set) stays (growing leads count start low (2 ^ 64))
    (settles (with_next leads count) (λ s. s) (2 ^ start) (2 ^ 64) (grown_rises leads count start) (λ k same. same) (grown_low leads count start stays low (2 ^ 64)))

-- ---- the solid routers

abbrev thinned_by : View → ℕ → ℕ
thinned_by view k = turns (kept view) k full

thinning : (view : View) → IsInside view → (k : ℕ) → IsThinning view (thinned_by view k) (kept view (thinned_by view k))
thinning view inside zero =
    subst (λ (s : ℕ). IsThinning view s (kept view s)) (sym (turns-zero (kept view) full)) (thinning_starts view (kept view full) inside refl)
thinning view inside (suc k) =
    let set = thinned_by view k in
    subst (λ (s : ℕ). IsThinning view s (kept view s)) (sym (turns-suc (kept view) k full))
    (thinning_more view set (kept view set) (kept view (kept view set)) inside (thinning view inside k) refl)

same_or_not : (a b : ℕ) → (a ≡ b) ⊎ (a ≢ b)
same_or_not a b = grind arith

thinned_falls : (view : View) → IsInside view → (k : ℕ) → thinned_by view (suc k) ≤ thinned_by view k
thinned_falls view inside k =
    let set = thinned_by view k in
    subst (λ (s : ℕ). s ≤ set) (sym (turns-suc (kept view) k full)) (elim (same_or_not (kept view set) set) [
      | inl same ↦ at_most (kept view set) set same
      | inr other ↦ less (kept view set) set (thinning_falls view set (kept view set) (thinning view inside k) other)
    ]) where
      at_most : (a b : ℕ) → a ≡ b → a ≤ b
      at_most a b e = omega arith

      less : (a b : ℕ) → a < b → a ≤ b
      less a b l = omega arith

thinned_low : (view : View) → IsInside view → (k : ℕ) → thinned_by view k ≤ full
thinned_low view inside zero = start (thinned_by view 0) (turns-zero (kept view) full) where
  start : (s : ℕ) → s ≡ full → s ≤ full
  start s e = omega arith
thinned_low view inside (suc k) = through (thinned_by view (suc k)) (thinned_by view k) full (thinned_falls view inside k) (thinned_low view inside k) where
  through : (a b c : ℕ) → a ≤ b → b ≤ c → a ≤ c
  through a b c l m = omega arith

-- how far a set has fallen
abbrev fallen : ℕ → ℕ
fallen set = full - set

fallen_rises : (a b : ℕ) → b ≤ a → fallen a ≤ fallen b
fallen_rises a b l = omega arith

fallen_apart : (a b : ℕ) → a ≤ full → b ≤ full → fallen a ≡ fallen b → a ≡ b
fallen_apart a b l m e = omega arith

fallen_low : (a : ℕ) → fallen a < 2 ^ 64
fallen_low a = omega arith

pub solid_is : (view : View) → IsInside view → AreSolid view (solid view)
unfolding solid
solid_is view inside =
    let set = thinned_by view (2 ^ 64) in
    thinning_ends view set (kept view set) inside (thinning view inside (2 ^ 64))
    (settles (kept view) fallen full (2 ^ 64)
    (λ k. fallen_rises (thinned_by view k) (thinned_by view (suc k)) (thinned_falls view inside k))
    (λ k same. fallen_apart (thinned_by view k) (thinned_by view (suc k)) (thinned_low view inside k) (thinned_low view inside (suc k)) same)
    (fallen_low set))

-- ---- the least member

-- the first number that passes a test, of so many from one on
abbrev IsFoundIn : (ℕ → Bool) → ℕ → ℕ → Option ℕ → Type 0
IsFoundIn test at n found =
    MatchOption found ((x : ℕ) → at ≤ x → x < at + n → test x ≡ false) (λ x. (test x ≡ true) × ((v : ℕ) → at ≤ v → v < x → test v ≡ false))

here_or_past : (at x : ℕ) → at ≤ x → (at ≡ x) ⊎ (at + 1 ≤ x)
here_or_past at x l = grind arith

found_in : (test : ℕ → Bool) (at n : ℕ) → IsFoundIn test at n (find test (range_with_len at n))
found_in test at zero = λ x l m. absurd (omega arith)
found_in test at (suc n) = go (test at) refl (find test (range_with_len (at + 1) n)) (found_in test (at + 1) n) where
  here : (x : ℕ) → test at ≡ false → at ≡ x → test x ≡ false
  here x e same = subst (λ (y : ℕ). test y ≡ false) same e

  go : (b : Bool) → test at ≡ b → (later : Option ℕ) → IsFoundIn test (at + 1) n later → IsFoundIn test at (suc n) (cond b (Some at) later)
  go true e later h = (e, λ v l m. absurd (omega arith))
  go false e None h = λ x l m. elim (here_or_past at x l) [
    | inl same ↦ here x e same
    | inr past ↦ h x past (omega arith)
  ]
  go false e (Some y) h = (
    h.0,
    λ v l m. elim (here_or_past at v l) [
      | inl same ↦ here v e same
      | inr past ↦ h.1 v past m
    ],
  )

pub least_is : (set : ℕ) → MatchOption (least set) ((x : ℕ) → x < 64 → has set x ≡ false) (λ x. IsLeast (λ y. has set y ≡ true) x)
unfolding least
least_is set = go (find (λ x. has set x) (range_with_len 0 64)) (found_in (λ x. has set x) 0 64) where
  go : (found : Option ℕ) → IsFoundIn (λ x. has set x) 0 64 found → MatchOption found ((x : ℕ) → x < 64 → has set x ≡ false) (λ x. IsLeast (λ y. has set y ≡ true) x)
  go None h = λ x l. h x (omega arith) (omega arith)
  go (Some x) h = record { has_it = h.0; none_below = λ v l member. off (has set v) member (h.1 v (omega arith) l) }
