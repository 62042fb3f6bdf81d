-- What is applied more often than a bounded number can rise has settled; and the set of the numbers that pass a test.
use Rattle.std.proofs.Common.{ℕ, zero, suc, ◌≡◌, ◌≢◌, ◌<◌, ◌≤◌, ◌==◌, ◌||◌, ◌^◌, ◌⊎◌, inl, inr, Bool, true, false, bit_or, arith, ap, sym, subst, ◌∙◌, refl, lit<, if◌then◌else◌}
use Rattle.std.specs.Int.{bit_at}
use Rattle.std.proofs.lemmas.Bool.Decides.{nat_tests}
use Rattle.std.proofs.Math.Pow.{pow-lt}
use Rattle.std.proofs.lemmas.Nat.{or_lt}
use Rattle.std.proofs.lemmas.Nat.Bits.{bit_at-pow_same, bit_at-pow_other, bit_at-zero}
use Rattle.net_types.specs.Sets.{has}
use Rattle.net_types.specs.Turns.{set_of, turns}
use Rattle.net_types.proofs.SetLemmas.{has_union}
use Rattle.net_types.proofs.TestLemmas.{equal_self, right}

pub turns-zero : {X : Type 0} (f : X → X) (x : X) → turns f 0 x ≡ x
unfolding turns
turns-zero f x = refl

pub turns-suc : {X : Type 0} (f : X → X) (k : ℕ) (x : X) → turns f (suc k) x ≡ f (turns f k x)
unfolding turns
turns-suc f k x = refl

compare : (a b : ℕ) → a ≤ b → (a ≡ b) ⊎ (a < b)
compare a b h = grind arith

-- At each turn it has settled, or its rank is at least the number of turns.
settled_or_high : {X : Type 0} (f : X → X) (rank : X → ℕ) (x : X) → ((k : ℕ) → rank (turns f k x) ≤ rank (turns f (suc k) x)) → ((k : ℕ) → rank (turns f k x) ≡ rank (turns f (suc k) x) → turns f k x ≡ turns f (suc k) x) → (k : ℕ) → (turns f k x ≡ turns f (suc k) x) ⊎ (k ≤ rank (turns f k x))
settled_or_high f rank x up apart zero = inr (omega arith)
settled_or_high f rank x up apart (suc k) =
    elim (settled_or_high f rank x up apart k) [
      | inl same ↦ inl (turns-suc f k x ∙ ap f same ∙ sym (turns-suc f (suc k) x))
      | inr high ↦ elim (compare (rank (turns f k x)) (rank (turns f (suc k) x)) (up k)) [
        | inl equal ↦ inl (turns-suc f k x ∙ ap f (apart k equal) ∙ sym (turns-suc f (suc k) x))
        | inr less ↦ inr (omega arith)
      ]
    ]

-- With more turns than any rank it has settled.
pub settles : {X : Type 0} (f : X → X) (rank : X → ℕ) (x : X) (n : ℕ) → ((k : ℕ) → rank (turns f k x) ≤ rank (turns f (suc k) x)) → ((k : ℕ) → rank (turns f k x) ≡ rank (turns f (suc k) x) → turns f k x ≡ turns f (suc k) x) → rank (turns f n x) < n → f (turns f n x) ≡ turns f n x
settles f rank x n up apart low =
    elim (settled_or_high f rank x up apart n) [
      | inl same ↦ sym (turns-suc f n x) ∙ sym same
      | inr high ↦ absurd (omega arith)
    ]

-- ---- the set of what passes a test

pub has_single : (x y : ℕ) → has (2 ^ x) y ≡ (y == x)
has_single x y = elim (same_or x y) [
  | inl same ↦ let e = bit_at-pow_same x in let f : bit_at (2 ^ x) y ≡ 1 = rw same e in grind (arith, nat_tests)
  | inr other ↦ let e = bit_at-pow_other x y other in grind (arith, nat_tests)
] where
  same_or : (x y : ℕ) → (y ≡ x) ⊎ (y ≢ x)
  same_or x y = grind arith

pub has_none : (x : ℕ) → has 0 x ≡ false
has_none x = let e = bit_at-zero x in grind (arith, nat_tests)

other : (x k : ℕ) → x ≢ k → (x == k) ≡ false
other x k h = grind (arith, nat_tests)

added_other : (b : Bool) (set k x : ℕ) → x ≢ k → has (if b then bit_or set (2 ^ k) else set) x ≡ has set x
added_other false set k x h = refl
added_other true set k x h = let e = has_union set (2 ^ k) x in let f = has_single k x in let g = other x k h in with_none (has set x) (has (2 ^ k) x) (has (bit_or set (2 ^ k)) x) e (f ∙ g) where
  with_none : (p q r : Bool) → r ≡ (p || q) → q ≡ false → r ≡ p
  with_none true q r e f = e
  with_none false q r e f = e ∙ f

added_same : (b : Bool) (set k : ℕ) → has set k ≡ false → has (if b then bit_or set (2 ^ k) else set) k ≡ b
added_same false set k h = h
added_same true set k h = has_union set (2 ^ k) k ∙ right (has set k) (has (2 ^ k) k) (has_single k k ∙ equal_self k)

pub set_past : (test : ℕ → Bool) (k x : ℕ) → k ≤ x → has (set_of test k) x ≡ false
unfolding set_of
set_past test zero x h = has_none x
set_past test (suc k) x h = added_other (test k) (set_of test k) k x (λ e. omega arith) ∙ set_past test k x (omega arith)

pub set_in : (test : ℕ → Bool) (k x : ℕ) → x < k → has (set_of test k) x ≡ test x
unfolding set_of
set_in test zero x h = absurd (omega arith)
set_in test (suc k) x h = elim (last x k h) [
  | inl same ↦ subst (λ (y : ℕ). has (if test k then bit_or (set_of test k) (2 ^ k) else set_of test k) y ≡ test y) (sym same) (added_same (test k) (set_of test k) k (set_past test k k (omega arith)))
  | inr less ↦ added_other (test k) (set_of test k) k x (λ e. omega arith) ∙ set_in test k x less
] where
  last : (x k : ℕ) → x < suc k → (x ≡ k) ⊎ (x < k)
  last x k h = grind arith

pub set_small : (test : ℕ → Bool) (k : ℕ) → k ≤ 64 → set_of test k < 2 ^ 64
unfolding set_of
set_small test zero h = lit< tt
set_small test (suc k) h = chosen (test k) (or_lt 64 (set_of test k) (2 ^ k) (set_small test k (omega arith)) (pow-lt {i = k} {j = 64} (omega arith))) (set_small test k (omega arith)) where
  chosen : (b : Bool) → {m n : ℕ} → m < 2 ^ 64 → n < 2 ^ 64 → (if b then m else n) < 2 ^ 64
  chosen true p q = p
  chosen false p q = q
