-- What is in a list, and in the lists that are made of it.
use Rattle.std.proofs.Common.{ℕ, zero, suc, ◌≡◌, ◌<◌, ◌||◌, ◌++◌, ◌⊎◌, inl, inr, ⊎_elim, Bool, true, false, cond, List, [], ◌∷◌, map, fold, length, get_or, refl, ap, sym, subst, ◌∙◌, arith, Contains, All, Option, Some, None}
use Rattle.std.specs.List.{list_any, position_or_len, insert, filter, filter_map, find, cons_option, AllByRecursion}
use Rattle.std.proofs.lemmas.Bool.{false≢true}
use Rattle.std.proofs.lemmas.List.Elements.{All-from_recursion, recursion_from_All, All-contains_itself}
use Rattle.topology.specs.Ascending.{is_there, put, ascending}
use Rattle.topology.specs.Meaning.{IsAscending}
use Rattle.topology.proofs.RisingLemmas.{IsOrder, put_before, insert-place, All-ascending, Rises-ascending, AllPairs-from_rises}

-- the item is in the list
abbrev pub In : {A : Type 0} → A → List A → Type 0
In y [] = ⊥
In y (x ∷ xs) = (x ≡ y) ⊎ In y xs

pub Contains-from_In : {A : Type 0} (y : A) (xs : List A) → In y xs → Contains xs y
Contains-from_In y [] h = absurd h
Contains-from_In y (x ∷ xs) h = ⊎_elim (λ e. (0, omega arith, e)) (λ i. let c = Contains-from_In y xs i in (suc c.0, omega (arith, c.1), c.2)) h

pub In-from_Contains : {A : Type 0} (y : A) (xs : List A) → Contains xs y → In y xs
In-from_Contains y [] h = absurd (omega (arith, h.1))
In-from_Contains y (x ∷ xs) h = go (λ k l e. In-from_Contains y xs (k, l, e)) h.0 h.1 h.2 where
  go : ((k : ℕ) → k < length xs → get_or xs k y ≡ y → In y xs) → (k : ℕ) → k < length (x ∷ xs) → get_or (x ∷ xs) k y ≡ y → (x ≡ y) ⊎ In y xs
  go later zero l e = inl e
  go later (suc k) l e = inr (later k (omega arith) e)

pub In-map : {A B : Type 0} (f : A → B) (y : A) (xs : List A) → In y xs → In (f y) (map f xs)
In-map f y [] h = h
In-map f y (x ∷ xs) h = ⊎_elim (λ e. inl (ap f e)) (λ i. inr (In-map f y xs i)) h

pub In-filter : {A : Type 0} (p : A → Bool) (y : A) (xs : List A) → In y xs → p y ≡ true → In y (filter p xs)
In-filter p y [] h t = h
In-filter p y (x ∷ xs) h t = go (p x) refl (λ i. In-filter p y xs i t) h where
  go : (b : Bool) → p x ≡ b → (In y xs → In y (filter p xs)) → (x ≡ y) ⊎ In y xs → In y (cond b (x ∷ filter p xs) (filter p xs))
  go true e later h = ⊎_elim (λ f. inl f) (λ i. inr (later i)) h
  go false e later h = ⊎_elim (λ f. absurd (false≢true (sym e ∙ ap p f ∙ t))) (λ i. later i) h

pub from-filter : {A : Type 0} (p : A → Bool) (y : A) (xs : List A) → In y (filter p xs) → In y xs × (p y ≡ true)
from-filter p y [] h = absurd h
from-filter p y (x ∷ xs) h = go (p x) refl (λ i. from-filter p y xs i) h where
  go : (b : Bool) → p x ≡ b → (In y (filter p xs) → In y xs × (p y ≡ true)) → In y (cond b (x ∷ filter p xs) (filter p xs)) → ((x ≡ y) ⊎ In y xs) × (p y ≡ true)
  go true e later h = ⊎_elim (λ f. (inl f, ap p (sym f) ∙ e)) (λ i. (inr (later i).0, (later i).1)) h
  go false e later h = (inr (later h).0, (later h).1)

pub In-filter_map : {A B : Type 0} (f : A → Option B) (x : A) (y : B) (xs : List A) → In x xs → f x ≡ Some y → In y (filter_map f xs)
In-filter_map f x y [] h e = absurd h
In-filter_map {B = B} f x y (z ∷ zs) h e = go (f z) refl (λ i. In-filter_map f x y zs i e) h where
  same : (a b : B) → Some a ≡ Some b → a ≡ b
  same a b q = cc

  other : {R : Type 0} (b : B) → None ≡ Some b → R
  other b q = absurd (false≢true cc)

  go : (o : Option B) → f z ≡ o → (In x zs → In y (filter_map f zs)) → (z ≡ x) ⊎ In x zs → In y (cons_option o (filter_map f zs))
  go None q later h = ⊎_elim (λ g. other y (sym q ∙ ap f g ∙ e)) (λ i. later i) h
  go (Some w) q later h = ⊎_elim (λ g. inl (same w y (sym q ∙ ap f g ∙ e))) (λ i. inr (later i)) h

pub from-map : {A B : Type 0} (f : A → B) (y : B) (xs : List A) → In y (map f xs) → (x : A) × In x xs × (f x ≡ y)
from-map f y [] h = absurd h
from-map f y (x ∷ xs) h = ⊎_elim (λ e. (x, inl refl, e)) (λ i. let w = from-map f y xs i in (w.0, inr w.1, w.2)) h

pub In-append-left : {A : Type 0} (y : A) (xs ys : List A) → In y xs → In y (xs ++ ys)
In-append-left y [] ys h = absurd h
In-append-left y (x ∷ xs) ys h = ⊎_elim (λ e. inl e) (λ i. inr (In-append-left y xs ys i)) h

pub In-append-right : {A : Type 0} (y : A) (xs ys : List A) → In y ys → In y (xs ++ ys)
In-append-right y [] ys h = h
In-append-right y (x ∷ xs) ys h = inr (In-append-right y xs ys h)

-- some item passes
pub from-any : {A : Type 0} (p : A → Bool) (xs : List A) → list_any p xs ≡ true → (x : A) × In x xs × (p x ≡ true)
from-any p [] h = absurd (false≢true h)
from-any {A = A} p (x ∷ xs) h = go (p x) refl h (λ t. from-any p xs t) where
  go : (b : Bool) → p x ≡ b → (b || list_any p xs) ≡ true → (list_any p xs ≡ true → (y : A) × In y xs × (p y ≡ true)) → (y : A) × In y (x ∷ xs) × (p y ≡ true)
  go true e t later = (x, inl refl, e)
  go false e t later = let w = later t in (w.0, inr w.1, w.2)

pub any-from : {A : Type 0} (p : A → Bool) (x : A) (xs : List A) → In x xs → p x ≡ true → list_any p xs ≡ true
any-from p x [] h t = absurd h
any-from p x (y ∷ ys) h t = go (p y) refl (λ i. any-from p x ys i t) where
  go : (b : Bool) → p y ≡ b → (In x ys → list_any p ys ≡ true) → (b || list_any p ys) ≡ true
  go true e later = refl
  go false e later = ⊎_elim (λ f. absurd (false≢true (sym e ∙ ap p f ∙ t))) (λ i. later i) h

-- what is found is there and passes, and what is there and passes is found
pub from-find : {A : Type 0} (p : A → Bool) (x : A) (xs : List A) → find p xs ≡ Some x → In x xs × (p x ≡ true)
from-find p x [] h = absurd (false≢true (none x h)) where
  none : {A : Type 0} (x : A) → None ≡ Some x → false ≡ true
  none x e = cc
from-find {A = A} p x (y ∷ ys) h = go (p y) refl h (λ t. from-find p x ys t) where
  same : (a b : A) → Some a ≡ Some b → a ≡ b
  same a b e = cc

  go : (b : Bool) → p y ≡ b → cond b (Some y) (find p ys) ≡ Some x → (find p ys ≡ Some x → In x ys × (p x ≡ true)) → In x (y ∷ ys) × (p x ≡ true)
  go true e f later = let q = same y x f in (inl q, ap p (sym q) ∙ e)
  go false e f later = (inr (later f).0, (later f).1)

pub find-some : {A : Type 0} (p : A → Bool) (x : A) (xs : List A) → In x xs → p x ≡ true → (y : A) × (find p xs ≡ Some y)
find-some p x [] h t = absurd h
find-some {A = A} p x (y ∷ ys) h t = go (p y) refl (λ i. find-some p x ys i t) where
  go : (b : Bool) → p y ≡ b → (In x ys → (z : A) × (find p ys ≡ Some z)) → (z : A) × (cond b (Some y) (find p ys) ≡ Some z)
  go true e later = (y, refl)
  go false e later = later (⊎_elim (λ f. absurd (false≢true (sym e ∙ ap p f ∙ t))) (λ i. i) h)

-- ascending lists
pub In-there : {A : Type 0} (same : A → A → Bool) → ((a b : A) → same a b ≡ true → a ≡ b) → (x : A) (xs : List A) → list_any (λ y. same y x) xs ≡ true → In x xs
In-there same one x [] h = absurd (false≢true h)
In-there same one x (y ∷ ys) h = go (same y x) refl (λ i. In-there same one x ys i) h where
  go : (b : Bool) → same y x ≡ b → (list_any (λ z. same z x) ys ≡ true → In x ys) → (b || list_any (λ z. same z x) ys) ≡ true → (y ≡ x) ⊎ In x ys
  go true e later t = inl (one y x e)
  go false e later t = inr (later t)

In-put_before : {A : Type 0} (before : A → A → Bool) (x y : A) (xs : List A) → (x ≡ y) ⊎ In y xs → In y (put_before before x xs)
In-put_before before x y [] h = h
In-put_before before x y (z ∷ zs) h = go (before x z) (λ i. In-put_before before x y zs i) h where
  go : (b : Bool) → ((x ≡ y) ⊎ In y zs → In y (put_before before x zs)) → (x ≡ y) ⊎ ((z ≡ y) ⊎ In y zs) → In y (cond b (x ∷ z ∷ zs) (z ∷ put_before before x zs))
  go true later h = h
  go false later h = ⊎_elim (λ e. inr (later (inl e))) (λ i. ⊎_elim (λ e. inl e) (λ j. inr (later (inr j))) i) h

In-put : {A : Type 0} (same before : A → A → Bool) → ((a b : A) → same a b ≡ true → a ≡ b) → (xs : List A) (x y : A) → (x ≡ y) ⊎ In y xs → In y (put same before xs x)
In-put same before one xs x y h = go (is_there same x xs) refl where
  go : (b : Bool) → is_there same x xs ≡ b → In y (cond b xs (insert xs (position_or_len (λ z. before x z) xs) x))
  go true e = ⊎_elim (λ f. rw (← f) (In-there same one x xs e)) (λ i. i) h
  go false e = rw (insert-place before x xs) (In-put_before before x y xs h)

In-fold : {A : Type 0} (same before : A → A → Bool) → ((a b : A) → same a b ≡ true → a ≡ b) → (y : A) (xs done : List A) → In y xs ⊎ In y done → In y (fold (λ done x. put same before done x) done xs)
In-fold same before one y [] done h = ⊎_elim (λ i. absurd i) (λ i. i) h
In-fold same before one y (x ∷ xs) done h = In-fold same before one y xs (put same before done x) (⊎_elim (λ i. ⊎_elim (λ e. inr (In-put same before one done x y (inl e))) (λ j. inl j) i) (λ i. inr (In-put same before one done x y (inr i))) h)

pub In-ascending : {A : Type 0} (same before : A → A → Bool) → ((a b : A) → same a b ≡ true → a ≡ b) → (y : A) (xs : List A) → In y xs → In y (ascending same before xs)
In-ascending same before one y xs i = In-fold same before one y xs [] (inl i)

-- what is true of each item is true of one of them
pub in-all : {A : Type 0} (P : A → Type 0) (y : A) (xs : List A) → AllByRecursion P xs → In y xs → P y
in-all P y [] a h = absurd h
in-all P y (x ∷ xs) a h = ⊎_elim (λ e. subst P e a.0) (λ i. in-all P y xs a.1 i) h

pub all-in : {A : Type 0} (xs : List A) (P : A → Type 0) → ((y : A) → In y xs → P y) → AllByRecursion P xs
all-in [] P h = tt
all-in (x ∷ xs) P h = (h x (inl refl), all-in xs P (λ y i. h y (inr i)))

pub All-from_In : {A : Type 0} (xs : List A) (P : A → Type 0) → ((y : A) → In y xs → P y) → All P xs
All-from_In xs P h = All-from_recursion P xs (all-in xs P h)

-- the ascending list is what it is called
pub IsAscending-ascending : {A : Type 0} (same before : A → A → Bool) → IsOrder same before → ((a b : A) → same a b ≡ true → a ≡ b) → (xs : List A) → IsAscending before xs (ascending same before xs)
IsAscending-ascending same before o one xs = record {
  rises = AllPairs-from_rises before (ascending same before xs) (Rises-ascending same before o xs);
  taken = All-from_recursion (λ y. Contains xs y) (ascending same before xs) (All-ascending (λ y. Contains xs y) same before xs (recursion_from_All (λ y. Contains xs y) xs (All-contains_itself xs)));
  complete = All-from_In xs (λ x. Contains (ascending same before xs) x) (λ x i. Contains-from_In x (ascending same before xs) (In-ascending same before one x xs i));
}
