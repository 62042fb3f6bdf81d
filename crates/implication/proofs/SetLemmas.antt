-- Sets that are gathered number by number, and tests of the numbers below a count.
use Rattle.std.proofs.Common.{ℕ, zero, suc, ◌≡◌, ◌≢◌, ◌+◌, ◌^◌, ◌<◌, ◌≤◌, ◌==◌, ◌||◌, ◌&&◌, not, ◌⊎◌, inl, inr, Bool, true, false, bit_or, arith, sym, subst, ◌∙◌, refl}
use Rattle.std.specs.List.{list_any, range_with_len}
use Rattle.std.proofs.lemmas.Bool.Decides.{nat_tests}
use Rattle.std.proofs.lemmas.Nat.Bits.{bit_at_ones}
use Rattle.net_types.specs.Sets.{has}
use Rattle.net_types.specs.Turns.{set_of}
use Rattle.net_types.proofs.SetLemmas.{has_union, part_le, same_sets}
use Rattle.net_types.proofs.TestLemmas.{any_at, either}
use Rattle.net_types.proofs.TurnLemmas.{has_none, has_single, set_in, set_past}
use Rattle.implication.specs.View.{every_below, some_below}
use Rattle.implication.specs.OnTheWay.{IsSetOf}

pub earlier : (x k : ℕ) → x < k + 1 → (x ≡ k) ⊎ (x < k)
earlier x k h = grind arith

pub true_or_false : (b : Bool) → (b ≡ true) ⊎ (b ≡ false)
true_or_false true = inl refl
true_or_false false = inr refl

pub off : (b : Bool) → b ≡ true → b ≡ false → ⊥
off b h i = cc

-- ---- unions

pub in_one : (a b x : ℕ) → has (bit_or a b) x ≡ true → (has a x ≡ true) ⊎ (has b x ≡ true)
in_one a b x h = let e = has_union a b x in grind (arith, nat_tests)

pub in_left : (a b x : ℕ) → has a x ≡ true → has (bit_or a b) x ≡ true
in_left a b x h = let e = has_union a b x in grind (arith, nat_tests)

pub in_right : (a b x : ℕ) → has b x ≡ true → has (bit_or a b) x ≡ true
in_right a b x h = let e = has_union a b x in grind (arith, nat_tests)

pub has_with : (set k x : ℕ) → has (bit_or set (2 ^ k)) x ≡ (has set x || x == k)
has_with set k x = let p = has_union set (2 ^ k) x in let q = has_single k x in grind (arith, nat_tests)

-- sets of numbers below 64 are below 2 ^ 64
pub set_low : (set : ℕ) → ((x : ℕ) → has set x ≡ true → x < 64) → set ≤ 18446744073709551615
set_low set low = part_le set 18446744073709551615 (record { members = λ x h. let l = low x h in let o = bit_at_ones 64 x l in grind (arith, nat_tests) })

-- ---- the numbers below k that pass a test

low_or_high : (x k : ℕ) → (x < k) ⊎ (k ≤ x)
low_or_high x k = grind arith

pub made : (test : ℕ → Bool) (k set : ℕ) → set ≡ set_of test k → IsSetOf test k set
made test k set is = rw is (record {
  only = λ x h. elim (low_or_high x k) [
    | inl low ↦ (low, sym (set_in test k x low) ∙ h)
    | inr high ↦ absurd (off (has (set_of test k) x) h (set_past test k x high))
  ];
  all = λ x l h. set_in test k x l ∙ h;
})

-- where the test never passes
pub empty_of : (test : ℕ → Bool) (count : ℕ) → ((v : ℕ) → test v ≡ false) → IsSetOf test count 0
empty_of test count never = record {
  only = λ v h. absurd (off (has 0 v) h (has_none v));
  all = λ v l h. absurd (off (test v) h (never v));
}

-- where the tests agree
pub same_of : (p q : ℕ → Bool) (count set : ℕ) → ((v : ℕ) → p v ≡ q v) → IsSetOf p count set → IsSetOf q count set
same_of p q count set same is = record {
  only = λ v h. ((is.only v h).0, sym (same v) ∙ (is.only v h).1);
  all = λ v l h. is.all v l (same v ∙ h);
}

-- where one of the tests passes
pub union_of : (p q r : ℕ → Bool) (count a b : ℕ) → ((v : ℕ) → r v ≡ (p v || q v)) → IsSetOf p count a → IsSetOf q count b → IsSetOf r count (bit_or a b)
union_of p q r count a b choice is_a is_b = record {
  only = λ v h. elim (in_one a b v h) [
    | inl left ↦ (let f = is_a.only v left in (f.0, choice v ∙ or_left (p v) (q v) f.1))
    | inr right ↦ (let f = is_b.only v right in (f.0, choice v ∙ or_right (p v) (q v) f.1))
  ];
  all = λ v l h. elim (either (p v) (q v) (sym (choice v) ∙ h)) [
    | inl left ↦ in_left a b v (is_a.all v l left)
    | inr right ↦ in_right a b v (is_b.all v l right)
  ];
} where
  or_left : (x y : Bool) → x ≡ true → (x || y) ≡ true
  or_left x y h = grind (arith, nat_tests)

  or_right : (x y : Bool) → y ≡ true → (x || y) ≡ true
  or_right x y h = grind (arith, nat_tests)

-- ---- tests of the numbers below k

any_below : (test : ℕ → Bool) (at n : ℕ) → list_any test (range_with_len at n) ≡ true → (x : ℕ) × (x < at + n) × (test x ≡ true)
any_below test at zero e = absurd (cc)
any_below test at (suc n) e = elim (either (test at) (list_any test (range_with_len (at + 1) n)) e) [
  | inl here ↦ (at, (omega arith), here)
  | inr later ↦ (let i = any_below test (at + 1) n later in let l = i.1 in (i.0, omega arith, i.2))
]

pub some_at : (k : ℕ) (test : ℕ → Bool) (x : ℕ) → x < k → test x ≡ true → some_below k test ≡ true
some_at k test x l h = any_at test 0 k x (omega arith) (omega arith) h

pub some_from : (k : ℕ) (test : ℕ → Bool) → some_below k test ≡ true → (x : ℕ) × (x < k) × (test x ≡ true)
some_from k test h = let i = any_below test 0 k h in let l = i.1 in (i.0, omega arith, i.2)

not_true : (b : Bool) → b ≡ false → not b ≡ true
not_true b h = rw h refl

true_if_not : (b : Bool) → not b ≡ true → b ≡ false
true_if_not true h = absurd (cc)
true_if_not false h = refl

pub every_at : (k : ℕ) (test : ℕ → Bool) → every_below k test ≡ true → (x : ℕ) → x < k → test x ≡ true
every_at k test h x l = elim (true_or_false (test x)) [
  | inl passes ↦ passes
  | inr fails ↦ absurd (off (some_below k (λ y. not (test y))) (some_at k (λ y. not (test y)) x l (not_true (test x) fails)) (true_if_not (some_below k (λ y. not (test y))) h))
]

pub every_from : (k : ℕ) (test : ℕ → Bool) → ((x : ℕ) → x < k → test x ≡ true) → every_below k test ≡ true
every_from k test h = elim (true_or_false (some_below k (λ y. not (test y)))) [
  | inl some ↦ (let f = some_from k (λ y. not (test y)) some in absurd (off (test f.0) (h f.0 f.1) (true_if_not (test f.0) f.2)))
  | inr none ↦ not_true (some_below k (λ y. not (test y))) none
]

pub not_every : (k : ℕ) (test : ℕ → Bool) → every_below k test ≡ false → (x : ℕ) × (x < k) × (test x ≡ false)
not_every k test h = elim (true_or_false (some_below k (λ y. not (test y)))) [
  | inl some ↦ (let f = some_from k (λ y. not (test y)) some in (f.0, f.1, true_if_not (test f.0) f.2))
  | inr none ↦ absurd (off (every_below k test) (not_true (some_below k (λ y. not (test y))) none) h)
]

-- ---- an empty set

same_bool : (a b : Bool) → (a ≡ true → b ≡ true) → (b ≡ true → a ≡ true) → a ≡ b
same_bool true b f g = sym (f refl)
same_bool false true f g = g refl
same_bool false false f g = refl

zero_is : (set : ℕ) → (set == 0) ≡ true → set ≡ 0
zero_is set h = grind (arith, nat_tests)

is_zero : (set : ℕ) → set ≡ 0 → (set == 0) ≡ true
is_zero set h = grind (arith, nat_tests)

-- a set without members is 0
none_in : (set : ℕ) → ((x : ℕ) → has set x ≡ false) → set ≡ 0
none_in set none = same_sets set 0 (λ x. none x ∙ sym (has_none x))

fails_if_empty : (test : ℕ → Bool) (k set : ℕ) → IsSetOf test k set → set ≡ 0 → (x : ℕ) → x < k → not (test x) ≡ true
fails_if_empty test k set is e x l = elim (true_or_false (test x)) [
  | inl passes ↦ absurd (off (has set x) (is.all x l passes) (rw e (has_none x)))
  | inr not_so ↦ not_true (test x) not_so
]

none_if_fails : (test : ℕ → Bool) (k set : ℕ) → IsSetOf test k set → every_below k (λ x. not (test x)) ≡ true → (x : ℕ) → has set x ≡ false
none_if_fails test k set is e x = elim (true_or_false (has set x)) [
  | inl member ↦ (let m = is.only x member in absurd (off (test x) m.1 (true_if_not (test x) (every_at k (λ y. not (test y)) e x m.0))))
  | inr not_so ↦ not_so
]

-- it is empty where every number below k fails the test
pub empty_is_none : (test : ℕ → Bool) (k set : ℕ) → IsSetOf test k set → (set == 0) ≡ every_below k (λ x. not (test x))
empty_is_none test k set is =
    same_bool (set == 0) (every_below k (λ x. not (test x)))
    (λ e. every_from k (λ x. not (test x)) (fails_if_empty test k set is (zero_is set e)))
    (λ e. is_zero set (none_in set (none_if_fails test k set is e)))

pub every_if_none : (test : ℕ → Bool) (k set : ℕ) → set ≡ set_of test k → (set == 0) ≡ every_below k (λ x. not (test x))
every_if_none test k set is = empty_is_none test k set (made test k set is)

-- some number below k passes the test where the set of those is not empty
none_if_none : (test : ℕ → Bool) (k set : ℕ) → IsSetOf test k set → some_below k test ≡ false → (x : ℕ) → has set x ≡ false
none_if_none test k set is none x = elim (true_or_false (has set x)) [
  | inl member ↦ (let m = is.only x member in absurd (off (some_below k test) (some_at k test x m.0 m.1) none))
  | inr not_so ↦ not_so
]

pub some_if_set : (test : ℕ → Bool) (k set : ℕ) → IsSetOf test k set → not (set == 0) ≡ some_below k test
some_if_set test k set is = same_bool (not (set == 0)) (some_below k test) there back where
  there : not (set == 0) ≡ true → some_below k test ≡ true
  there e = elim (true_or_false (some_below k test)) [
    | inl some ↦ some
    | inr none ↦ absurd (off (set == 0) (is_zero set (none_in set (none_if_none test k set is none))) (true_if_not (set == 0) e))
  ]

  back : some_below k test ≡ true → not (set == 0) ≡ true
  back e = let f = some_from k test e in not_true (set == 0) (elim (true_or_false (set == 0)) [
    | inl empty ↦ absurd (off (has set f.0) (is.all f.0 f.1 f.2) (rw (zero_is set empty) (has_none f.0)))
    | inr not_so ↦ not_so
  ])
