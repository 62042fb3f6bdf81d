-- The number of a new entry is the next one, and the causes for which none is added.
use Rattle.std.proofs.Common.{ℕ, zero, suc, ◌≡◌, ◌<◌, ◌≤◌, ◌+◌, ◌*◌, ◌/◌, ◌^◌, ◌==◌, ◌||◌, ◌⊎◌, nat_le, nat_eq, max, Bool, true, false, List, [], ◌∷◌, length, fold, All, get_or, Ok, Err, if◌then◌else◌, inl, inr, refl, sym, ◌∙◌, arith}
use Rattle.std.specs.List.{Contains, list_any}
use Rattle.std.proofs.lemmas.Bool.Decides.{nat_tests}
use Rattle.std.proofs.lemmas.List.Elements.{All-nil, All-cons, All-head, All-tail}
use Rattle.frr_policy.specs.declared.refusals.LineRefusal.{LineRefusal}
use Rattle.frr_policy.specs.declared.refusals.LineRefusal.TheVariants.{BadValue, Repeated, OutOfLimit}
use Rattle.frr_policy.specs.Lists.{greatest, most_entries, if_free}
use Rattle.frr_policy.specs.Laws.{IsNext, IsNumbered, IsAdded}

-- the greatest of some numbers and a first one is above all of them, and below each number that is
from_first : (xs : List ℕ) (a : ℕ) → a ≤ fold max a xs
from_first [] a = omega arith
from_first (x ∷ xs) a = let h = from_first xs (max a x) in let k : a ≤ max a x = grind (arith, nat_tests) in omega arith

above_all : (xs : List ℕ) (a : ℕ) → All (λ n. n ≤ fold max a xs) xs
above_all [] a = All-nil (λ n. n ≤ a)
above_all (x ∷ xs) a = All-cons (λ n. n ≤ fold max (max a x) xs) x xs (let h = from_first xs (max a x) in let k : x ≤ max a x = grind (arith, nat_tests) in omega arith) (above_all xs (max a x))

below_each : (xs : List ℕ) (a m : ℕ) → a < m → All (λ n. n < m) xs → fold max a xs < m
below_each [] a m h k = h
below_each (x ∷ xs) a m h k = let l = All-head (λ n. n < m) x xs k in below_each xs (max a x) m (grind (arith, nat_tests)) (All-tail (λ n. n < m) x xs k)

is_next : (taken : List ℕ) → IsNext taken (greatest taken / 5 * 5 + 5)
is_next taken = record {
  positive = omega arith;
  multiple = omega arith;
  above = λ k d l. let h = above_all taken 0 k d l in omega arith;
  least = λ m p e h. let g = below_each taken 0 m p h in omega arith;
}

-- there is but one next number
one_next : (taken : List ℕ) (m n : ℕ) → IsNext taken m → IsNext taken n → m ≤ n
one_next taken m n h k = h.least n k.positive k.multiple k.above

pub is_numbered : (taken : List ℕ) → IsNumbered taken
is_numbered taken = record {
  next = λ m e. next number m (nat_le number 4294967295) refl (is_next taken) e;
  refused = λ refusal e. refused number refusal (nat_le number 4294967295) refl (is_next taken) e;
} where
  number : ℕ
  number = greatest taken / 5 * 5 + 5

  under : (n : ℕ) → nat_le n 4294967295 ≡ true → n < 2 ^ 32
  under n e = grind (arith, nat_tests)

  over : (n : ℕ) → nat_le n 4294967295 ≡ false → 2 ^ 32 ≤ n
  over n e = grind (arith, nat_tests)

  next : (n m : ℕ) (b : Bool) → nat_le n 4294967295 ≡ b → IsNext taken n → (if b then Ok n else Err BadValue) ≡ Ok m → IsNext taken m × (m < 2 ^ 32)
  next n m true e i f = let g : n ≡ m = cc in rw (sym g) (i, under n e)
  next n m false e i f = absurd (cc)

  refused : (n : ℕ) (refusal : LineRefusal) (b : Bool) → nat_le n 4294967295 ≡ b → IsNext taken n → (if b then Ok n else Err BadValue) ≡ Err refusal → (refusal ≡ BadValue) × ((m : ℕ) → IsNext taken m → 2 ^ 32 ≤ m)
  refused n refusal true e i f = absurd (cc)
  refused n refusal false e i f = (cc, λ m j. let l = over n e in let o = one_next taken n m i j in omega arith)

-- a number that a test finds is there, and else it is not

here : (x : ℕ) (xs : List ℕ) → Contains (x ∷ xs) x
here x xs = (0, omega arith, refl)

there : (y x : ℕ) (xs : List ℕ) → Contains xs x → Contains (y ∷ xs) x
there y x xs c = (suc c.0, (let l : c.0 < length xs = c.1 in omega arith), c.2)

cases : (y x : ℕ) (xs : List ℕ) → Contains (y ∷ xs) x → (y ≡ x) ⊎ Contains xs x
cases y x xs c = go c.0 c.1 c.2 where
  go : (k : ℕ) → k < length (y ∷ xs) → get_or (y ∷ xs) k x ≡ x → (y ≡ x) ⊎ Contains xs x
  go zero l e = inl e
  go (suc k) l e = inr (k, omega arith, e)

none : (x : ℕ) → Contains [] x → ⊥
none x c = let l : c.0 < 0 = c.1 in omega arith

found : (xs : List ℕ) (x : ℕ) → list_any (λ n. n == x) xs ≡ true → Contains xs x
found [] x e = absurd (cc)
found (y ∷ ys) x e = go (nat_eq y x) refl e (found ys x) where
  go : (b : Bool) → nat_eq y x ≡ b → (b || list_any (λ n. n == x) ys) ≡ true → (list_any (λ n. n == x) ys ≡ true → Contains ys x) → Contains (y ∷ ys) x
  go true f g i = let h : y ≡ x = grind (arith, nat_tests) in rw h (here x ys)
  go false f g i = there y x ys (i g)

absent : (xs : List ℕ) (x : ℕ) → list_any (λ n. n == x) xs ≡ false → Contains xs x → ⊥
absent [] x e c = none x c
absent (y ∷ ys) x e c = go (nat_eq y x) refl e (absent ys x) (cases y x ys c) where
  go : (b : Bool) → nat_eq y x ≡ b → (b || list_any (λ n. n == x) ys) ≡ false → (list_any (λ n. n == x) ys ≡ false → Contains ys x → ⊥) → (y ≡ x) ⊎ Contains ys x → ⊥
  go true f g i h = cc
  go false f g i (inl h) = grind (arith, nat_tests)
  go false f g i (inr h) = i g h

pub is_added : (taken : List ℕ) (number : ℕ) → IsAdded taken number
is_added taken number = go (list_any (λ n. n == number) taken) refl (nat_le most_entries (length taken)) refl where
  go : (b : Bool) → list_any (λ n. n == number) taken ≡ b → (c : Bool) → nat_le most_entries (length taken) ≡ c → IsAdded taken number
  go true e c f = let is : Contains taken number = found taken number e in let g : if_free taken number ≡ Err Repeated = rw e refl in record {
    repeated = (λ _. is, λ _. g);
    full = (λ h. absurd (let k : Err Repeated ≡ Err OutOfLimit = sym g ∙ h in cc), λ h. absurd (h.0 is));
    added = (λ h. absurd (let k : Err Repeated ≡ Ok number = sym g ∙ h in cc), λ h. absurd (h.0 is));
  }
  go false e true f = let is : Contains taken number → ⊥ = absent taken number e in let l : 64 ≤ length taken = grind (arith, nat_tests) in let g : if_free taken number ≡ Err OutOfLimit = rw (e, f) refl in record {
    repeated = (λ h. absurd (let k : Err OutOfLimit ≡ Err Repeated = sym g ∙ h in cc), λ h. absurd (is h));
    full = (λ _. (is, l), λ _. g);
    added = (λ h. absurd (let k : Err OutOfLimit ≡ Ok number = sym g ∙ h in cc), λ h. absurd (let m = h.1 in omega arith));
  }
  go false e false f = let is : Contains taken number → ⊥ = absent taken number e in let l : length taken < 64 = grind (arith, nat_tests) in let g : if_free taken number ≡ Ok number = rw (e, f) refl in record {
    repeated = (λ h. absurd (let k : Ok number ≡ Err Repeated = sym g ∙ h in cc), λ h. absurd (is h));
    full = (λ h. absurd (let k : Ok number ≡ Err OutOfLimit = sym g ∙ h in cc), λ h. absurd (let m = h.1 in omega arith));
    added = (λ _. (is, l), λ _. g);
  }
