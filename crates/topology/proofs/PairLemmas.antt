-- The least pair of positions of items that meet is what its recursion finds.
use Rattle.std.proofs.Common.{ℕ, zero, suc, ◌≡◌, ◌+◌, ◌≤◌, ◌<◌, ◌⊎◌, inl, inr, ⊎_elim, Bool, true, false, not, cond, nat_lt, List, [], ◌∷◌, length, get_or, refl, ap, sym, ◌∙◌, arith, MatchOption, Option, Some, None}
use Rattle.std.specs.Option.{option_map}
use Rattle.std.specs.List.{position, position_or_len, slice_get, AllByRecursion}
use Rattle.std.proofs.lemmas.Bool.{false≢true}
use Rattle.std.proofs.lemmas.Bool.Decides.{nat_tests}
use Rattle.std.proofs.lemmas.Option.{slice_get_within, get_or_from_slice_get, slice_get-get_or}
use Rattle.std.proofs.lemmas.List.Quantifiers.{position-Some}
use Rattle.topology.specs.Pairs.{pair_or, least_pair}
use Rattle.topology.specs.Meaning.{IsUpTo, IsLeastPair, NoPair}
use Rattle.topology.proofs.RisingLemmas.{Rises}

-- two items of a list meet, or one meets itself
pub record Meet {A : Type 0} (itself : A → Bool) (meets : A → A → Bool) (xs : List A) (i j : ℕ) : Type 0 where
  pub x : A
  pub y : A
  pub x_at : slice_get xs i ≡ Some x
  pub y_at : slice_get xs j ≡ Some y
  pub how : ((i < j) × (meets x y ≡ true)) ⊎ ((i ≡ j) × (itself x ≡ true))

-- what a least pair is, where positions are counted from `at`
abbrev pub IsPair : {A : Type 0} → (A → Bool) → (A → A → Bool) → ℕ → List A → Option (ℕ × ℕ) → Type 0
IsPair itself meets at xs found = MatchOption found (NoPair (Meet itself meets xs)) (λ p. (k : ℕ) × (l : ℕ) × (p.0 ≡ at + k) × (p.1 ≡ at + l) × IsLeastPair (Meet itself meets xs) k l)

-- an item meets none behind it, and not itself
record IsLone {A : Type 0} (itself : A → Bool) (meets : A → A → Bool) (x : A) (xs : List A) : Type 0 where
  alone : itself x ≡ false
  apart : (m : ℕ) (y : A) → slice_get xs m ≡ Some y → meets x y ≡ false

same_some : {A : Type 0} (x y : A) → Some x ≡ Some y → x ≡ y
same_some x y e = cc

lone-first : {A : Type 0} (itself : A → Bool) (meets : A → A → Bool) (x : A) (xs : List A) → IsLone itself meets x xs → (l : ℕ) → Meet itself meets (x ∷ xs) 0 l → ⊥
lone-first itself meets x xs lone zero m = ⊎_elim (λ h. absurd (omega arith)) (λ h. false≢true (sym lone.alone ∙ ap itself (same_some x m.x m.x_at) ∙ h.1)) m.how
lone-first itself meets x xs lone (suc l) m = ⊎_elim (λ h. false≢true (sym (lone.apart l m.y m.y_at) ∙ ap (λ z. meets z m.y) (same_some x m.x m.x_at) ∙ h.1)) (λ h. absurd (omega arith)) m.how

-- the first that passes is no later than one that passes
place-at_most : {A : Type 0} (p : A → Bool) (xs : List A) (m : ℕ) (y : A) → slice_get xs m ≡ Some y → p y ≡ true → position_or_len p xs ≤ m
place-at_most p [] m y h t = absurd (false≢true cc)
place-at_most p (x ∷ xs) zero y h t = let e : p x ≡ true = ap p (same_some x y h) ∙ t in rw e (omega arith)
place-at_most p (x ∷ xs) (suc m) y h t = go (p x) (place-at_most p xs m y h t) where
  go : (b : Bool) → position_or_len p xs ≤ m → cond (not b) (1 + position_or_len p xs) 0 ≤ suc m
  go true i = omega arith
  go false i = omega arith

pub none-position : {A : Type 0} (p : A → Bool) (xs : List A) → position p xs ≡ None → (m : ℕ) (y : A) → slice_get xs m ≡ Some y → p y ≡ false
none-position p xs e m y h = go (p y) refl where
  none : (b : Bool) (n : ℕ) → cond b (Some n) None ≡ None → b ≡ false
  none true n f = absurd (false≢true cc)
  none false n f = refl

  go : (b : Bool) → p y ≡ b → b ≡ false
  go false f = refl
  go true f =
      let at = place-at_most p xs m y h f in
      let inside = slice_get_within xs m y h in
      let past = none (nat_lt (position_or_len p xs) (length xs)) (position_or_len p xs) e in
      absurd (grind (arith, nat_tests))

-- an item that meets itself, or one behind it, and what is found from it on
first-itself : {A : Type 0} (itself : A → Bool) (meets : A → A → Bool) (at : ℕ) (x : A) (xs : List A) → itself x ≡ true → IsPair itself meets at (x ∷ xs) (Some (at, at + 0))
first-itself itself meets at x xs t = (
  0,
  0,
  omega arith,
  omega arith,
  record {
    meets = record { x = x; y = x; x_at = refl; y_at = refl; how = inr (refl, t) };
    least = least;
  },
) where
  least : (k l : ℕ) → Meet itself meets (x ∷ xs) k l → IsUpTo 0 0 k l
  least zero l m = inr (refl, omega arith)
  least (suc k) l m = inl (omega arith)

first-behind : {A : Type 0} (itself : A → Bool) (meets : A → A → Bool) (at n : ℕ) (x : A) (xs : List A) → itself x ≡ false → position (λ y. meets x y) xs ≡ Some n → IsPair itself meets at (x ∷ xs) (Some (at, at + (n + 1)))
first-behind itself meets at n x xs f e = (
  0,
  suc n,
  omega arith,
  omega arith,
  record {
    meets = record { x = x; y = get_or xs n x; x_at = refl; y_at = slice_get-get_or xs n x found.0; how = inl (omega arith, found.1) };
    least = least;
  },
) where
  found : (n < length xs) × (meets x (get_or xs n x) ≡ true) × ((k : ℕ) → k < n → meets x (get_or xs k x) ≡ false)
  found = position-Some (λ y. meets x y) xs n x e

  later : (l : ℕ) (m : Meet itself meets (x ∷ xs) 0 (suc l)) → meets x m.y ≡ true → (l < n → ⊥)
  later l m t h = false≢true (sym (found.2 l h) ∙ ap (λ z. meets x z) (get_or_from_slice_get xs l m.y x m.y_at) ∙ t)

  least : (k l : ℕ) → Meet itself meets (x ∷ xs) k l → IsUpTo 0 (suc n) k l
  least zero zero m = ⊎_elim (λ h. absurd (omega arith)) (λ h. absurd (false≢true (sym f ∙ ap itself (same_some x m.x m.x_at) ∙ h.1))) m.how
  least zero (suc l) m = inr (refl, ⊎_elim (λ h. let no = later l m (ap (λ z. meets z m.y) (same_some x m.x m.x_at) ∙ h.1) in omega arith) (λ h. absurd (omega arith)) m.how)
  least (suc k) l m = inl (omega arith)

-- what lies behind an item that meets none
behind-first : {A : Type 0} (itself : A → Bool) (meets : A → A → Bool) (x : A) (xs : List A) → (k l : ℕ) → Meet itself meets xs k l → Meet itself meets (x ∷ xs) (suc k) (suc l)
behind-first itself meets x xs k l m = record { x = m.x; y = m.y; x_at = m.x_at; y_at = m.y_at; how = ⊎_elim (λ h. inl (omega arith, h.1)) (λ h. inr (omega arith, h.1)) m.how }

from-behind : {A : Type 0} (itself : A → Bool) (meets : A → A → Bool) (x : A) (xs : List A) → (k l : ℕ) → Meet itself meets (x ∷ xs) (suc k) (suc l) → Meet itself meets xs k l
from-behind itself meets x xs k l m = record { x = m.x; y = m.y; x_at = m.x_at; y_at = m.y_at; how = ⊎_elim (λ h. inl (omega arith, h.1)) (λ h. inr (omega arith, h.1)) m.how }

later-pair : {A : Type 0} (itself : A → Bool) (meets : A → A → Bool) (at : ℕ) (x : A) (xs : List A) → IsLone itself meets x xs → (found : Option (ℕ × ℕ)) → IsPair itself meets (at + 1) xs found → IsPair itself meets at (x ∷ xs) found
later-pair itself meets at x xs lone None p = none where
  none : (k l : ℕ) → Meet itself meets (x ∷ xs) k l → ⊥
  none zero l m = lone-first itself meets x xs lone l m
  none (suc k) zero m = ⊎_elim (λ h. absurd (omega arith)) (λ h. absurd (omega arith)) m.how
  none (suc k) (suc l) m = p k l (from-behind itself meets x xs k l m)
later-pair itself meets at x xs lone (Some q) p = (
  suc p.0,
  suc p.1,
  omega arith,
  omega arith,
  record {
    meets = behind-first itself meets x xs p.0 p.1 p.4.meets;
    least = least;
  },
) where
  least : (k l : ℕ) → Meet itself meets (x ∷ xs) k l → IsUpTo (suc p.0) (suc p.1) k l
  least zero l m = absurd (lone-first itself meets x xs lone l m)
  least (suc k) zero m = ⊎_elim (λ h. absurd (omega arith)) (λ h. absurd (omega arith)) m.how
  least (suc k) (suc l) m = ⊎_elim (λ h. inl (omega arith)) (λ h. inr (omega arith, omega arith)) (p.4.least k l (from-behind itself meets x xs k l m))

pub IsPair-least_pair : {A : Type 0} (itself : A → Bool) (meets : A → A → Bool) (at : ℕ) (xs : List A) → IsPair itself meets at xs (least_pair itself meets at xs)
IsPair-least_pair itself meets at [] = λ k l m. absurd (false≢true (none m.x m.x_at)) where
  none : {A : Type 0} (x : A) → None ≡ Some x → false ≡ true
  none x e = cc
IsPair-least_pair {A = A} itself meets at (x ∷ xs) = go (itself x) refl (position (λ y. meets x y) xs) refl (IsPair-least_pair itself meets (at + 1) xs) where
  go : (b : Bool) → itself x ≡ b → (o : Option ℕ) → position (λ y. meets x y) xs ≡ o → IsPair itself meets (at + 1) xs (least_pair itself meets (at + 1) xs) → IsPair itself meets at (x ∷ xs) (pair_or at (cond b (Some 0) (option_map (λ k. k + 1) o)) (least_pair itself meets (at + 1) xs))
  go true t o e i = first-itself itself meets at x xs t
  go false f (Some n) e i = first-behind itself meets at n x xs f e
  go false f None e i = later-pair itself meets at x xs (record { alone = f; apart = none-position (λ y. meets x y) xs e }) (least_pair itself meets (at + 1) xs) i

-- where no least pair is found, no two items meet
all-places : {A : Type 0} (P : A → Type 0) (xs : List A) → ((m : ℕ) (y : A) → slice_get xs m ≡ Some y → P y) → AllByRecursion P xs
all-places P [] h = tt
all-places P (x ∷ xs) h = (h 0 x refl, all-places P xs (λ m y e. h (suc m) y e))

pub Rises-none : {A : Type 0} (meets : A → A → Bool) (at : ℕ) (xs : List A) → least_pair (λ _. false) meets at xs ≡ None → Rises (λ x y. not (meets x y)) xs
Rises-none meets at [] e = tt
Rises-none {A = A} meets at (x ∷ xs) e = go (position (λ y. meets x y) xs) refl e (λ f. Rises-none meets (at + 1) xs f) where
  found : (p : ℕ × ℕ) → Some p ≡ None → false ≡ true
  found p q = cc

  apart : position (λ y. meets x y) xs ≡ None → (m : ℕ) (y : A) → slice_get xs m ≡ Some y → not (meets x y) ≡ true
  apart q m y at = ap not (none-position (λ y. meets x y) xs q m y at)

  go : (o : Option ℕ) → position (λ y. meets x y) xs ≡ o → pair_or at (option_map (λ k. k + 1) o) (least_pair (λ _. false) meets (at + 1) xs) ≡ None → (least_pair (λ _. false) meets (at + 1) xs ≡ None → Rises (λ x y. not (meets x y)) xs) → Rises (λ x y. not (meets x y)) (x ∷ xs)
  go (Some n) q f later = absurd (false≢true (found (at, at + (n + 1)) f))
  go None q f later = (all-places (λ y. not (meets x y) ≡ true) xs (apart q), later f)
