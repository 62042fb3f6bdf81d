-- Tests that are joined, and tests of a list of numbers.
use Rattle.std.proofs.Common.{ℕ, zero, suc, ◌≡◌, ◌<◌, ◌≤◌, ◌+◌, ◌==◌, ◌&&◌, ◌||◌, ◌⊎◌, inl, inr, Bool, true, false, Option, Some, None, arith, sym, subst, refl}
use Rattle.std.specs.Option.{is_some, option_map_or}
use Rattle.std.specs.List.{list_any, range_with_len}
use Rattle.std.proofs.lemmas.Bool.Decides.{nat_tests}

pub both : (p q : Bool) → (p && q) ≡ true → (p ≡ true) × (q ≡ true)
both true q e = (refl, e)
both false q e = absurd (cc)

pub pair : (p q : Bool) → p ≡ true → q ≡ true → (p && q) ≡ true
pair true q e f = f
pair false q e f = e

pub either : (p q : Bool) → (p || q) ≡ true → (p ≡ true) ⊎ (q ≡ true)
either true q e = inl refl
either false q e = inr e

pub left : (p q : Bool) → p ≡ true → (p || q) ≡ true
left true q e = refl
left false q e = absurd (cc)

pub right : (p q : Bool) → q ≡ true → (p || q) ≡ true
right true q e = refl
right false q e = e

pub is_some_of : {X : Type 0} (o : Option X) → is_some o ≡ true → (x : X) × (o ≡ Some x)
is_some_of None e = absurd (cc)
is_some_of (Some x) e = (x, refl)

pub some_is : (test : ℕ → Bool) (o : Option ℕ) → option_map_or test o false ≡ true → (n : ℕ) × (o ≡ Some n) × (test n ≡ true)
some_is test None e = absurd (cc)
some_is test (Some n) e = (n, refl, e)

pub same_number : (a b : ℕ) → (a == b) ≡ true → a ≡ b
same_number a b e = grind (arith, nat_tests)

pub equal_self : (a : ℕ) → (a == a) ≡ true
equal_self a = grind (arith, nat_tests)

pub any_found : (test : ℕ → Bool) (at n : ℕ) → list_any test (range_with_len at n) ≡ true → (x : ℕ) × (test x ≡ true)
any_found test at zero e = absurd (cc)
any_found test at (suc n) e = elim (either (test at) (list_any test (range_with_len (at + 1) n)) e) [
  | inl here ↦ (at, here)
  | inr later ↦ any_found test (at + 1) n later
]

pub any_at : (test : ℕ → Bool) (at n x : ℕ) → at ≤ x → x < at + n → test x ≡ true → list_any test (range_with_len at n) ≡ true
any_at test at zero x h l e = absurd (omega arith)
any_at test at (suc n) x h l e = elim (compare at x h) [
  | inl same ↦ left (test at) (list_any test (range_with_len (at + 1) n)) (subst (λ (y : ℕ). test y ≡ true) (sym same) e)
  | inr less ↦ right (test at) (list_any test (range_with_len (at + 1) n)) (any_at test (at + 1) n x (omega arith) (omega arith) e)
] where
  compare : (a b : ℕ) → a ≤ b → (a ≡ b) ⊎ (a < b)
  compare a b h = grind arith

pub first : (p q : Bool) → (p && q) ≡ true → p ≡ true
first true q e = refl
first false q e = absurd (cc)
