-- The sorted list of some items, each once, is their ascending list.
use Rattle.std.proofs.Common.{ℕ, suc, ◌≡◌, ◌≤◌, ◌<◌, ◌⊎◌, inl, inr, ⊎_elim, Bool, true, false, cond, List, [], ◌∷◌, length, get_or, refl, ap, sym, ◌∙◌, arith, Option, Some, None}
use Rattle.std.specs.Prelude.{Result, Ok, Err, IfOk}
use Rattle.std.specs.List.{AllByRecursion}
use Rattle.std.specs.List.Sorted.{IsPermutation, IsSortedBy}
use Rattle.std.specs.Cmp.{IsStrictWeakOrder}
use Rattle.std.proofs.lemmas.Bool.{false≢true}
use Rattle.std.proofs.lemmas.List.Elements.{recursion_from_All}
use Rattle.std.proofs.lemmas.List.Sorted.{sorted_far, Contains-permutation, IsPermutation-sym}
use Rattle.topology.specs.Ascending.{IsLinear, is_last, once_behind, ascending}
use Rattle.topology.proofs.RisingLemmas.{IsOrder, Rises, Rises-ascending, All-ascending, AllByRecursion-weaker}
use Rattle.topology.proofs.MemberLemmas.{In, Contains-from_In, In-from_Contains, In-ascending, in-all, all-in}

pub order-from_linear : {A : Type 0} (same before : A → A → Bool) → IsLinear same before → IsOrder same before
order-from_linear same before o = record { trans = o.trans; total = o.total }

-- what a sort asks of its test
pub weak-from_linear : {A : Type 0} (same before : A → A → Bool) → IsLinear same before → IsStrictWeakOrder before
weak-from_linear {A = A} same before o = record { one_way = o.one_way; chain = chain } where
  chain : (x y z : A) → before x y ≡ false → before y z ≡ false → before x z ≡ false
  chain x y z e f = go (before x z) refl where
    go : (b : Bool) → before x z ≡ b → b ≡ false
    go false h = refl
    go true h = absurd (false≢true (sym f ∙ other (same y x) refl)) where
      other : (b : Bool) → same y x ≡ b → before y z ≡ true
      other true s = ap (λ w. before w z) (o.one y x s) ∙ h
      other false s = o.trans y x z (o.total x y e s) h

-- no item comes before one that stands ahead of it
abbrev pub Climbs : {A : Type 0} → (A → A → Bool) → List A → Type 0
Climbs before [] = Unit {0}
Climbs before (x ∷ xs) = AllByRecursion (λ y. before y x ≡ false) xs × Climbs before xs

climbs-far : {A : Type 0} (before : A → A → Bool) (xs : List A) → ((i j : ℕ) (d : A) → i ≤ j → j < length xs → before (get_or xs j d) (get_or xs i d) ≡ false) → Climbs before xs
climbs-far before [] h = tt
climbs-far before (x ∷ xs) h = (
  recursion_from_All (λ y. before y x ≡ false) xs (λ k d l. h 0 (suc k) d (omega arith) (omega arith)),
  climbs-far before xs (λ i j d l m. h (suc i) (suc j) d (omega arith) (omega arith)),
)

pub climbs-from_sorted : {A : Type 0} (before : A → A → Bool) → IsStrictWeakOrder before → (xs : List A) → IsSortedBy before xs → Climbs before xs
climbs-from_sorted before w xs up = climbs-far before xs (sorted_far before w xs up)

-- what stands behind an item, each once
rises-behind : {A : Type 0} (same before : A → A → Bool) → IsLinear same before → (x : A) (xs : List A) → AllByRecursion (λ y. before y x ≡ false) xs → Climbs before xs → AllByRecursion (λ y. before x y ≡ true) (once_behind same (Some x) xs) × Rises before (once_behind same (Some x) xs)
rises-behind same before o x [] a c = (tt, tt)
rises-behind same before o x (y ∷ ys) a c = go (same x y) refl (rises-behind same before o x ys a.1 c.1) (rises-behind same before o y ys c.0 c.1) where
  go : (b : Bool) → same x y ≡ b → AllByRecursion (λ z. before x z ≡ true) (once_behind same (Some x) ys) × Rises before (once_behind same (Some x) ys) → AllByRecursion (λ z. before y z ≡ true) (once_behind same (Some y) ys) × Rises before (once_behind same (Some y) ys) → AllByRecursion (λ z. before x z ≡ true) (cond b (once_behind same (Some x) ys) (y ∷ once_behind same (Some y) ys)) × Rises before (cond b (once_behind same (Some x) ys) (y ∷ once_behind same (Some y) ys))
  go true e i j = i
  go false e i j =
      let first : before x y ≡ true = o.total y x a.0 e in
      ((first, AllByRecursion-weaker (λ z. before y z ≡ true) (λ z. before x z ≡ true) (λ z h. o.trans x y z first h) (once_behind same (Some y) ys) j.0), j)

rises-once : {A : Type 0} (same before : A → A → Bool) → IsLinear same before → (xs : List A) → Climbs before xs → Rises before (once_behind same None xs)
rises-once same before o [] c = tt
rises-once same before o (x ∷ xs) c = rises-behind same before o x xs c.0 c.1

-- the items, each once, are the items
from-once : {A : Type 0} (same : A → A → Bool) (last : Option A) (z : A) (xs : List A) → In z (once_behind same last xs) → In z xs
from-once same last z [] h = h
from-once same last z (x ∷ xs) h = go (is_last same last x) (λ i. from-once same last z xs i) (λ i. from-once same (Some x) z xs i) h where
  go : (b : Bool) → (In z (once_behind same last xs) → In z xs) → (In z (once_behind same (Some x) xs) → In z xs) → In z (cond b (once_behind same last xs) (x ∷ once_behind same (Some x) xs)) → (x ≡ z) ⊎ In z xs
  go true f g i = inr (f i)
  go false f g i = ⊎_elim (λ e. inl e) (λ j. inr (g j)) i

to-once : {A : Type 0} (same before : A → A → Bool) → IsLinear same before → (x z : A) (xs : List A) → In z xs → (x ≡ z) ⊎ In z (once_behind same (Some x) xs)
to-once same before o x z [] h = absurd h
to-once same before o x z (y ∷ ys) h = go (same x y) refl (λ i. to-once same before o x z ys i) (λ i. to-once same before o y z ys i) where
  go : (b : Bool) → same x y ≡ b → (In z ys → (x ≡ z) ⊎ In z (once_behind same (Some x) ys)) → (In z ys → (y ≡ z) ⊎ In z (once_behind same (Some y) ys)) → (x ≡ z) ⊎ In z (cond b (once_behind same (Some x) ys) (y ∷ once_behind same (Some y) ys))
  go true e later other = ⊎_elim (λ f. inl (o.one x y e ∙ f)) (λ i. later i) h
  go false e later other = inr (⊎_elim (λ f. inl f) (λ i. other i) h)

once-all : {A : Type 0} (same before : A → A → Bool) → IsLinear same before → (z : A) (xs : List A) → In z xs → In z (once_behind same None xs)
once-all same before o z [] h = h
once-all same before o z (x ∷ xs) h = ⊎_elim (λ e. inl e) (λ i. to-once same before o x z xs i) h

-- two rising lists of the same items are one
pub rising-one : {A : Type 0} (same before : A → A → Bool) → IsLinear same before → (xs ys : List A) → Rises before xs → Rises before ys → ((z : A) → In z xs → In z ys) → ((z : A) → In z ys → In z xs) → xs ≡ ys
rising-one same before o [] [] r s f g = refl
rising-one same before o [] (y ∷ ys) r s f g = absurd (g y (inl refl))
rising-one same before o (x ∷ xs) [] r s f g = absurd (f x (inl refl))
rising-one {A = A} same before o (x ∷ xs) (y ∷ ys) r s f g =
    let rest = rising-one same before o xs ys r.1 s.1 forth back in
    rw (heads, rest) refl where
      never : (a b : A) → before a b ≡ true → before b a ≡ true → false ≡ true
      never a b p q = sym (o.one_way a b p) ∙ q

      heads : x ≡ y
      heads = ⊎_elim (λ e. sym e) (λ i. ⊎_elim (λ e. e) (λ j. absurd (false≢true (never y x (in-all (λ z. before y z ≡ true) x ys s.0 i) (in-all (λ z. before x z ≡ true) y xs r.0 j)))) (g y (inl refl))) (f x (inl refl))

      itself : (a b z : A) → a ≡ z → a ≡ b → before b z ≡ true → false ≡ true
      itself a b z e h p = let q : before z z ≡ true = ap (λ w. before w z) (sym e ∙ h) ∙ p in never z z q q

      forth : (z : A) → In z xs → In z ys
      forth z i = ⊎_elim (λ e. absurd (false≢true (itself y x z e (sym heads) (in-all (λ w. before x w ≡ true) z xs r.0 i)))) (λ j. j) (f z (inr i))

      back : (z : A) → In z ys → In z xs
      back z i = ⊎_elim (λ e. absurd (false≢true (itself x y z e heads (in-all (λ w. before y w ≡ true) z ys s.0 i)))) (λ j. j) (g z (inr i))

-- items of the ascending list are items of the list
pub from-ascending : {A : Type 0} (same before : A → A → Bool) (z : A) (xs : List A) → In z (ascending same before xs) → In z xs
from-ascending same before z xs i = in-all (λ w. In w xs) z (ascending same before xs) (All-ascending (λ w. In w xs) same before xs (all-in xs (λ w. In w xs) (λ w j. j))) i

pub ascending-sorted : {A : Type 0} (same before : A → A → Bool) → IsLinear same before → (xs ys : List A) → IsPermutation xs ys → IsSortedBy before ys → once_behind same None ys ≡ ascending same before xs
ascending-sorted {A = A} same before o xs ys p up =
    rising-one same before o (once_behind same None ys) (ascending same before xs)
    (rises-once same before o ys (climbs-from_sorted before (weak-from_linear same before o) ys up))
    (Rises-ascending same before (order-from_linear same before o) xs)
    (λ z i. In-ascending same before o.one z xs (moved ys xs (IsPermutation-sym xs ys p) z (from-once same None z ys i)))
    (λ z i. once-all same before o z ys (moved xs ys p z (from-ascending same before z xs i))) where
      moved : (xs ys : List A) → IsPermutation xs ys → (z : A) → In z xs → In z ys
      moved xs ys p z i = In-from_Contains z ys (Contains-permutation xs ys z p (Contains-from_In z xs i))

-- a list that an answer gives, written in another way
pub if-ok-at : {T E A : Type 0} (r : Result T E) (f : T → List A) (xs ys : List A) → xs ≡ ys → IfOk r (λ v. f v ≡ xs) → IfOk r (λ v. f v ≡ ys)
if-ok-at (Ok v) f xs ys e h = h ∙ e
if-ok-at (Err x) f xs ys e h = tt
