-- Lists that rise: they stay so when an item is put into them, and what is true of all items stays true.
use Rattle.std.proofs.Common.{ℕ, zero, suc, ◌≡◌, ◌+◌, ◌≤◌, ◌++◌, ◌||◌, Bool, true, false, not, cond, List, [], ◌∷◌, map, fold, length, refl, ap, sym, ◌∙◌, arith, AllPairs}
use Rattle.std.specs.List.{list_any, position_or_len, insert, AllByRecursion, filter_map, filter, flat_map, cons_option}
use Rattle.std.specs.Option.{IfSome}
use Rattle.std.specs.Prelude.{Option, Some, None}
use Rattle.std.proofs.lemmas.Bool.{false≢true}
use Rattle.std.proofs.lemmas.List.Elements.{All-from_recursion, All-map as map-all}
use Rattle.std.proofs.lemmas.List.Kept.{AllPairs-cons}
use Rattle.topology.specs.Ascending.{is_there, put, ascending}

-- each item stands before all that follow it
abbrev pub Rises : {A : Type 0} → (A → A → Bool) → List A → Type 0
Rises before [] = Unit {0}
Rises before (x ∷ xs) = AllByRecursion (λ y. before x y ≡ true) xs × Rises before xs

pub record IsOrder {A : Type 0} (same before : A → A → Bool) : Type 0 where
  pub trans : (x y z : A) → before x y ≡ true → before y z ≡ true → before x z ≡ true
  pub total : (x y : A) → before x y ≡ false → same y x ≡ false → before y x ≡ true

pub AllByRecursion-weaker : {A : Type 0} (P Q : A → Type 0) → ((x : A) → P x → Q x) → (xs : List A) → AllByRecursion P xs → AllByRecursion Q xs
AllByRecursion-weaker P Q h [] a = tt
AllByRecursion-weaker P Q h (x ∷ xs) a = (h x a.0, AllByRecursion-weaker P Q h xs a.1)

-- an item put before the first that it comes before
abbrev pub put_before : {A : Type 0} → (A → A → Bool) → A → List A → List A
put_before before x [] = x ∷ []
put_before before x (y ∷ ys) = cond (before x y) (x ∷ y ∷ ys) (y ∷ put_before before x ys)

insert-behind : {A : Type 0} (n m : ℕ) → m ≡ suc n → (y x : A) (ys : List A) → insert (y ∷ ys) m x ≡ y ∷ insert ys n x
insert-behind n m e y x ys = rw e refl

pub insert-place : {A : Type 0} (before : A → A → Bool) (x : A) (xs : List A) → insert xs (position_or_len (λ y. before x y) xs) x ≡ put_before before x xs
insert-place before x [] = refl
insert-place before x (y ∷ ys) = go (before x y) refl (insert-place before x ys) where
  go : (b : Bool) → before x y ≡ b → insert ys (position_or_len (λ z. before x z) ys) x ≡ put_before before x ys → insert (y ∷ ys) (cond (not (before x y)) (1 + position_or_len (λ z. before x z) ys) 0) x ≡ cond (before x y) (x ∷ y ∷ ys) (y ∷ put_before before x ys)
  go true e i = rw e refl
  go false e i = rw e (insert-behind (position_or_len (λ z. before x z) ys) (1 + position_or_len (λ z. before x z) ys) (omega arith) y x ys ∙ ap (λ zs. y ∷ zs) i)

pub All-put_before : {A : Type 0} (P : A → Type 0) (before : A → A → Bool) (x : A) (xs : List A) → P x → AllByRecursion P xs → AllByRecursion P (put_before before x xs)
All-put_before P before x [] p a = (p, tt)
All-put_before P before x (y ∷ ys) p a = go (before x y) (All-put_before P before x ys p a.1) where
  go : (b : Bool) → AllByRecursion P (put_before before x ys) → AllByRecursion P (cond b (x ∷ y ∷ ys) (y ∷ put_before before x ys))
  go true i = (p, a)
  go false i = (a.0, i)

or_false_left : (a b : Bool) → (a || b) ≡ false → a ≡ false
or_false_left true b e = e
or_false_left false b e = refl

or_false_right : (a b : Bool) → (a || b) ≡ false → b ≡ false
or_false_right true b e = absurd (false≢true (sym e))
or_false_right false b e = e

pub Rises-put_before : {A : Type 0} (same before : A → A → Bool) → IsOrder same before → (x : A) (xs : List A) → Rises before xs → list_any (λ y. same y x) xs ≡ false → Rises before (put_before before x xs)
Rises-put_before same before o x [] r n = (tt, tt)
Rises-put_before same before o x (y ∷ ys) r n = go (before x y) refl (Rises-put_before same before o x ys r.1 (or_false_right (same y x) (list_any (λ z. same z x) ys) n)) where
  go : (b : Bool) → before x y ≡ b → Rises before (put_before before x ys) → Rises before (cond b (x ∷ y ∷ ys) (y ∷ put_before before x ys))
  go true e i = ((e, AllByRecursion-weaker (λ z. before y z ≡ true) (λ z. before x z ≡ true) (λ z h. o.trans x y z e h) ys r.0), r)
  go false e i = (All-put_before (λ z. before y z ≡ true) before x ys (o.total x y e (or_false_left (same y x) (list_any (λ z. same z x) ys) n)) r.0, i)

pub Rises-put : {A : Type 0} (same before : A → A → Bool) → IsOrder same before → (xs : List A) (x : A) → Rises before xs → Rises before (put same before xs x)
Rises-put same before o xs x r = go (is_there same x xs) refl where
  go : (b : Bool) → is_there same x xs ≡ b → Rises before (cond b xs (insert xs (position_or_len (λ y. before x y) xs) x))
  go true e = r
  go false e = rw (insert-place before x xs) (Rises-put_before same before o x xs r e)

pub All-put : {A : Type 0} (P : A → Type 0) (same before : A → A → Bool) (xs : List A) (x : A) → P x → AllByRecursion P xs → AllByRecursion P (put same before xs x)
All-put P same before xs x p a = go (is_there same x xs) where
  go : (b : Bool) → AllByRecursion P (cond b xs (insert xs (position_or_len (λ y. before x y) xs) x))
  go true = a
  go false = rw (insert-place before x xs) (All-put_before P before x xs p a)

length-put_before : {A : Type 0} (before : A → A → Bool) (x : A) (xs : List A) → length (put_before before x xs) ≤ length xs + 1
length-put_before before x [] = omega arith
length-put_before before x (y ∷ ys) = go (before x y) (length-put_before before x ys) where
  go : (b : Bool) → length (put_before before x ys) ≤ length ys + 1 → length (cond b (x ∷ y ∷ ys) (y ∷ put_before before x ys)) ≤ length (y ∷ ys) + 1
  go true i = omega arith
  go false i = omega arith

length-put : {A : Type 0} (same before : A → A → Bool) (xs : List A) (x : A) → length (put same before xs x) ≤ length xs + 1
length-put same before xs x = go (is_there same x xs) where
  go : (b : Bool) → length (cond b xs (insert xs (position_or_len (λ y. before x y) xs) x)) ≤ length xs + 1
  go true = omega arith
  go false = rw (insert-place before x xs) (length-put_before before x xs)

Rises-fold : {A : Type 0} (same before : A → A → Bool) → IsOrder same before → (xs done : List A) → Rises before done → Rises before (fold (λ done x. put same before done x) done xs)
Rises-fold same before o [] done r = r
Rises-fold same before o (x ∷ xs) done r = Rises-fold same before o xs (put same before done x) (Rises-put same before o done x r)

pub Rises-ascending : {A : Type 0} (same before : A → A → Bool) → IsOrder same before → (xs : List A) → Rises before (ascending same before xs)
Rises-ascending same before o xs = Rises-fold same before o xs [] tt

All-fold : {A : Type 0} (P : A → Type 0) (same before : A → A → Bool) (xs done : List A) → AllByRecursion P xs → AllByRecursion P done → AllByRecursion P (fold (λ done x. put same before done x) done xs)
All-fold P same before [] done a b = b
All-fold P same before (x ∷ xs) done a b = All-fold P same before xs (put same before done x) a.1 (All-put P same before done x a.0 b)

pub All-ascending : {A : Type 0} (P : A → Type 0) (same before : A → A → Bool) (xs : List A) → AllByRecursion P xs → AllByRecursion P (ascending same before xs)
All-ascending P same before xs a = All-fold P same before xs [] a tt

length-fold : {A : Type 0} (same before : A → A → Bool) (xs done : List A) → length (fold (λ done x. put same before done x) done xs) ≤ length done + length xs
length-fold same before [] done = omega arith
length-fold same before (x ∷ xs) done = let a = length-put same before done x in let b = length-fold same before xs (put same before done x) in omega arith

pub length-ascending : {A : Type 0} (same before : A → A → Bool) (xs : List A) → length (ascending same before xs) ≤ length xs
length-ascending same before xs = let a = length-fold same before xs [] in omega arith

pub all-both : {A : Type 0} (P Q R : A → Type 0) → ((x : A) → P x → Q x → R x) → (xs : List A) → AllByRecursion P xs → AllByRecursion Q xs → AllByRecursion R xs
all-both P Q R h [] a b = tt
all-both P Q R h (x ∷ xs) a b = (h x a.0 b.0, all-both P Q R h xs a.1 b.1)

pub every : {A : Type 0} (xs : List A) → AllByRecursion (λ _. Unit {0}) xs
every [] = tt
every (x ∷ xs) = (tt, every xs)

-- items that are apart in either order stay apart when they are put in order
Rises-put_before-apart : {A : Type 0} (apart : A → A → Bool) → ((x y : A) → apart x y ≡ true → apart y x ≡ true) → (before : A → A → Bool) (x : A) (xs : List A) → AllByRecursion (λ y. apart x y ≡ true) xs → Rises apart xs → Rises apart (put_before before x xs)
Rises-put_before-apart apart back before x [] a r = (tt, tt)
Rises-put_before-apart apart back before x (y ∷ ys) a r = go (before x y) (Rises-put_before-apart apart back before x ys a.1 r.1) where
  go : (b : Bool) → Rises apart (put_before before x ys) → Rises apart (cond b (x ∷ y ∷ ys) (y ∷ put_before before x ys))
  go true i = (a, r)
  go false i = (All-put_before (λ z. apart y z ≡ true) before x ys (back x y a.0) r.0, i)

Rises-put-apart : {A : Type 0} (apart : A → A → Bool) → ((x y : A) → apart x y ≡ true → apart y x ≡ true) → (same before : A → A → Bool) (xs : List A) (x : A) → AllByRecursion (λ y. apart x y ≡ true) xs → Rises apart xs → Rises apart (put same before xs x)
Rises-put-apart apart back same before xs x a r = go (is_there same x xs) where
  go : (b : Bool) → Rises apart (cond b xs (insert xs (position_or_len (λ y. before x y) xs) x))
  go true = r
  go false = rw (insert-place before x xs) (Rises-put_before-apart apart back before x xs a r)

Rises-fold-apart : {A : Type 0} (apart : A → A → Bool) → ((x y : A) → apart x y ≡ true → apart y x ≡ true) → (same before : A → A → Bool) (xs done : List A) → Rises apart xs → Rises apart done → AllByRecursion (λ x. AllByRecursion (λ d. apart x d ≡ true) done) xs → Rises apart (fold (λ done x. put same before done x) done xs)
Rises-fold-apart apart back same before [] done r d a = d
Rises-fold-apart apart back same before (x ∷ xs) done r d a =
    Rises-fold-apart apart back same before xs (put same before done x) r.1
    (Rises-put-apart apart back same before done x a.0 d)
    (all-both (λ y. apart x y ≡ true) (λ y. AllByRecursion (λ z. apart y z ≡ true) done) (λ y. AllByRecursion (λ z. apart y z ≡ true) (put same before done x)) (λ y p q. All-put (λ z. apart y z ≡ true) same before done x (back x y p) q) xs r.0 a.1)

pub Rises-ascending-apart : {A : Type 0} (apart : A → A → Bool) → ((x y : A) → apart x y ≡ true → apart y x ≡ true) → (same before : A → A → Bool) (xs : List A) → Rises apart xs → Rises apart (ascending same before xs)
Rises-ascending-apart apart back same before xs r = Rises-fold-apart apart back same before xs [] r tt (every xs)

-- a list that rises, by its pairs
pub AllPairs-from_rises : {A : Type 0} (before : A → A → Bool) (xs : List A) → Rises before xs → AllPairs (λ a b. before a b ≡ true) xs
AllPairs-from_rises before [] r i j d l h = absurd (omega arith)
AllPairs-from_rises before (x ∷ xs) r i zero d l h = absurd (omega arith)
AllPairs-from_rises before (x ∷ xs) r zero (suc j) d l h = All-from_recursion (λ y. before x y ≡ true) xs r.0 j d (omega arith)
AllPairs-from_rises before (x ∷ xs) r (suc i) (suc j) d l h = AllPairs-from_rises before xs r.1 i j d (omega arith) (omega arith)

-- what is true of each gives of all that a filter keeps
pub All-filter : {A : Type 0} (p : A → Bool) (P : A → Type 0) (xs : List A) → AllByRecursion P xs → AllByRecursion P (filter p xs)
All-filter p P [] a = tt
All-filter p P (x ∷ xs) a = go (p x) (All-filter p P xs a.1) where
  go : (b : Bool) → AllByRecursion P (filter p xs) → AllByRecursion P (cond b (x ∷ filter p xs) (filter p xs))
  go true i = (a.0, i)
  go false i = i

pub All-map : {A B : Type 0} (f : A → B) (P : B → Type 0) (xs : List A) → AllByRecursion (λ x. P (f x)) xs → AllByRecursion P (map f xs)
All-map f P [] a = tt
All-map f P (x ∷ xs) a = (a.0, All-map f P xs a.1)

pub All-append : {A : Type 0} (P : A → Type 0) (xs ys : List A) → AllByRecursion P xs → AllByRecursion P ys → AllByRecursion P (xs ++ ys)
All-append P [] ys a b = b
All-append P (x ∷ xs) ys a b = (a.0, All-append P xs ys a.1 b)

pub All-flat_map : {A B : Type 0} (f : A → List B) (P : A → Type 0) (Q : B → Type 0) → ((x : A) → P x → AllByRecursion Q (f x)) → (xs : List A) → AllByRecursion P xs → AllByRecursion Q (flat_map f xs)
All-flat_map f P Q h [] a = tt
All-flat_map f P Q h (x ∷ xs) a = All-append Q (f x) (flat_map f xs) (h x a.0) (All-flat_map f P Q h xs a.1)

-- what an item gives, where it gives something
pub All-filter_map : {A B : Type 0} (f : A → Option B) (P : A → Type 0) (Q : B → Type 0) → ((x : A) → P x → IfSome (f x) Q) → (xs : List A) → AllByRecursion P xs → AllByRecursion Q (filter_map f xs)
All-filter_map f P Q h [] a = tt
All-filter_map {B = B} f P Q h (x ∷ xs) a = go (f x) (h x a.0) (All-filter_map f P Q h xs a.1) where
  go : (o : Option B) → IfSome o Q → AllByRecursion Q (filter_map f xs) → AllByRecursion Q (cons_option o (filter_map f xs))
  go None q i = i
  go (Some y) q i = (q, i)

pub Rises-map : {A B : Type 0} (f : A → B) (before : B → B → Bool) (xs : List A) → Rises (λ a b. before (f a) (f b)) xs → Rises before (map f xs)
Rises-map f before [] r = tt
Rises-map f before (x ∷ xs) r = (All-map f (λ y. before (f x) y ≡ true) xs r.0, Rises-map f before xs r.1)

-- what items of a rising list give, where each stands for its item, rises
pub Rises-filter_map : {A B : Type 0} (f : A → Option B) (g : B → A) (before : A → A → Bool) → ((x : A) → IfSome (f x) (λ y. g y ≡ x)) → (xs : List A) → Rises before xs → Rises (λ a b. before (g a) (g b)) (filter_map f xs)
Rises-filter_map f g before h [] r = tt
Rises-filter_map {A = A} {B = B} f g before h (x ∷ xs) r = go (f x) (h x) (Rises-filter_map f g before h xs r.1) where
  go : (o : Option B) → IfSome o (λ y. g y ≡ x) → Rises (λ a b. before (g a) (g b)) (filter_map f xs) → Rises (λ a b. before (g a) (g b)) (cons_option o (filter_map f xs))
  go None e i = i
  go (Some y) e i = (All-filter_map f (λ z. before x z ≡ true) (λ z. before (g y) (g z) ≡ true) (λ z q. later z q (f z) (h z)) xs r.0, i) where
    later : (z : A) → before x z ≡ true → (o : Option B) → IfSome o (λ w. g w ≡ z) → IfSome o (λ w. before (g y) (g w) ≡ true)
    later z q None k = tt
    later z q (Some w) k = rw (e, k) q

-- pairs of what is seen through a function
pub AllPairs-map : {A B : Type 0} (R : B → B → Type 0) (f : A → B) (xs : List A) → AllPairs (λ a b. R (f a) (f b)) xs → AllPairs R (map f xs)
AllPairs-map R f [] a = λ i j d l h. absurd (omega arith)
AllPairs-map R f (x ∷ xs) a = AllPairs-cons R (f x) (map f xs) (map-all (R (f x)) f xs (λ k d l. a 0 (suc k) d (omega arith) (omega arith))) (AllPairs-map R f xs (λ i j d l h. a (suc i) (suc j) d (omega arith) (omega arith)))
