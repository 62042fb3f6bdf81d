-- On a list that ascends, a search by halves finds the first place of a value.
use Rattle.std.proofs.Common.{ℕ, ◌≡◌, ◌<◌, ◌≤◌, ◌==◌, ◌⊎◌, inl, inr, true, false, List, length, Some, None, AllPairs, cond, nat_lt, slice_index_or, arith, refl}
use Rattle.std.proofs.lemmas.Bool.Decides.{nat_tests}
use Rattle.std.proofs.lemmas.List.Sums.{position_or_len_is}
use Rattle.net_types.specs.Numbering.{community_among}

before_or_same : (i j : ℕ) → i ≤ j → (i < j) ⊎ (i ≡ j)
before_or_same i j low = grind arith

pub rises : (xs : List ℕ) → AllPairs (λ (a b : ℕ). a < b) xs → (i j : ℕ) → i ≤ j → j < length xs → slice_index_or xs i 0 ≤ slice_index_or xs j 0
rises xs up i j low inside = elim (before_or_same i j low) [
  | inl before ↦ let e = up i j 0 before inside in omega arith
  | inr same ↦ rw same (omega arith)
]

other : (a b x : ℕ) → a < b → b ≡ x → (a == x) ≡ false
other a b x low is = grind (arith, nat_tests)

less : (a x : ℕ) → a < x → (a == x) ≡ false
less a x low = grind (arith, nat_tests)

same : (a x : ℕ) → a ≡ x → (a == x) ≡ true
same a x is = grind (arith, nat_tests)

placed : (k n : ℕ) → k < n → cond (nat_lt k n) (Some k) None ≡ Some k
placed k n low = let e : nat_lt k n ≡ true = grind (arith, nat_tests) in rw e refl

nowhere : (n : ℕ) → cond (nat_lt n n) (Some n) None ≡ None
nowhere n = let e : nat_lt n n ≡ false = grind (arith, nat_tests) in rw e refl

-- the place where the value stands
pub found_place : (xs : List ℕ) (x i : ℕ) → AllPairs (λ (a b : ℕ). a < b) xs → (i < length xs) × (slice_index_or xs i 0 ≡ x) → Some i ≡ community_among xs x
found_place xs x i up (inside, is) =
    let p = position_or_len_is (λ (y : ℕ). y == x) xs i 0 (omega arith)
    (λ k low. other (slice_index_or xs k 0) (slice_index_or xs i 0) x (up k i 0 low inside) is) (λ low. same (slice_index_or xs i 0) x is) in
    rw (p, placed i (length xs) inside) refl

-- none, where those before some place are less and the others greater
pub found_none : (xs : List ℕ) (x i : ℕ) → (i ≤ length xs) × ((k : ℕ) → k < i → slice_index_or xs k 0 < x) × ((k : ℕ) → i ≤ k → k < length xs → x < slice_index_or xs k 0) → None ≡ community_among xs x
found_none xs x i (inside, before, behind) =
    let p = position_or_len_is (λ (y : ℕ). y == x) xs (length xs) 0 (omega arith)
    (λ k low. elim (below_or_not k i) [ inl near ↦ less (slice_index_or xs k 0) x (before k near) | inr far ↦ more (slice_index_or xs k 0) x (behind k far low) ]) (λ low. absurd (omega arith)) in
    rw (p, nowhere (length xs)) refl where
      below_or_not : (k i : ℕ) → (k < i) ⊎ (i ≤ k)
      below_or_not k i = grind arith

      more : (a x : ℕ) → x < a → (a == x) ≡ false
      more a x low = grind (arith, nat_tests)
