-- Entries put at their places, and lists with one entry more: what is true of all stays true, and entries
-- ascend.
use Rattle.std.proofs.Common.{ℕ, zero, suc, ◌≡◌, ◌<◌, ◌≤◌, ◌+◌, ◌++◌, ◌==◌, ◌||◌, Bool, true, false, not, cond, List, [], ◌∷◌, length, map, insert, set, get_or, nat_lt, nat_eq, ◌&&◌, All, AllPairs, slice_get, Some, Result, Ok, Err, OnOk, refl, ap, subst, sym, ◌∙◌, arith}
use Rattle.std.specs.Option.{option_map_or}
use Rattle.net_types.specs.Order.{same_text}
use Rattle.std.proofs.lemmas.List.{length-set}
use Rattle.std.specs.List.{list_any, position_or_len}
use Rattle.std.proofs.lemmas.Bool.Decides.{nat_tests}
use Rattle.std.proofs.lemmas.List.Elements.{All-nil, All-cons, All-head, All-tail}
use Rattle.std.proofs.lemmas.List.Edits.{get_or-insert_at}
use Rattle.std.proofs.lemmas.List.Kept.{AllPairs-cons}
use Rattle.std.proofs.lemmas.List.Sums.{prefix_len-le-length}
use Rattle.std.proofs.lemmas.Option.{get_or_from_slice_get, slice_get_within, slice_get_read}
use Rattle.frr_reader.specs.Entries.{place_for, put, on_first}

get-behind : {A : Type 0} (n m : ℕ) → m ≡ suc n → (y x : A) (ys : List A) → get_or (y ∷ ys) m x ≡ get_or ys n x
get-behind n m e y x ys = rw e refl

set-behind : {A : Type 0} (n m : ℕ) → m ≡ suc n → (y x : A) (ys : List A) → set (y ∷ ys) m x ≡ y ∷ set ys n x
set-behind n m e y x ys = rw e refl

insert-behind : {A : Type 0} (n m : ℕ) → m ≡ suc n → (y x : A) (ys : List A) → insert (y ∷ ys) m x ≡ y ∷ insert ys n x
insert-behind n m e y x ys = rw e refl

-- where none passes, a new one stands at the end
pub on_first-new : {A : Type 0} (test : A → Bool) (change : A → A) (new : A) (xs : List A) → length xs ≤ position_or_len test xs → on_first test change new xs ≡ xs ++ new ∷ []
on_first-new test change new [] h = refl
on_first-new {A} test change new (x ∷ xs) h = go (test x) (λ k. on_first-new test change new xs k) h where
  go : (b : Bool) → (length xs ≤ position_or_len test xs → on_first test change new xs ≡ xs ++ new ∷ []) → length (x ∷ xs) ≤ cond (not b) (1 + position_or_len test xs) 0 → cond b (change x ∷ xs) (x ∷ on_first test change new xs) ≡ x ∷ (xs ++ new ∷ [])
  go true i l = absurd (omega arith)
  go false i l = ap (λ ys. x ∷ ys) (i (omega arith))

-- the first that passes is changed
pub on_first-old : {A : Type 0} (test : A → Bool) (change : A → A) (new : A) (xs : List A) (x : A) → position_or_len test xs < length xs → x ≡ get_or xs (position_or_len test xs) x → on_first test change new xs ≡ set xs (position_or_len test xs) (change x)
on_first-old test change new [] x h e = absurd (omega arith)
on_first-old {A} test change new (y ∷ ys) x h e = go (test y) (λ k f. on_first-old test change new ys x k f) h e where
  go : (b : Bool) → (position_or_len test ys < length ys → x ≡ get_or ys (position_or_len test ys) x → on_first test change new ys ≡ set ys (position_or_len test ys) (change x)) → cond (not b) (1 + position_or_len test ys) 0 < length (y ∷ ys) → x ≡ get_or (y ∷ ys) (cond (not b) (1 + position_or_len test ys) 0) x → cond b (change y ∷ ys) (y ∷ on_first test change new ys) ≡ set (y ∷ ys) (cond (not b) (1 + position_or_len test ys) 0) (change x)
  go true i l f = ap (λ z. change z ∷ ys) (sym f)
  go false i l f = ap (λ zs. y ∷ zs) (i (omega arith) (f ∙ get-behind (position_or_len test ys) (1 + position_or_len test ys) (omega arith) y x ys)) ∙ sym (set-behind (position_or_len test ys) (1 + position_or_len test ys) (omega arith) y (change x) ys)

-- how the code adds an entry: to a new list, or to the one at its place
pub added_new : {A : Type 0} (test : A → Bool) (change : A → A) (new : A) (xs now : List A) (k n : ℕ) → k ≡ position_or_len test xs → n ≡ length xs → n ≤ k → now ≡ xs ++ new ∷ [] → now ≡ on_first test change new xs
added_new test change new xs now k n e f h i = i ∙ sym (on_first-new test change new xs (omega arith))

pub added_old : {A E : Type 0} (test : A → Bool) (change : A → A) (new : A) (xs : List A) (k n : ℕ) (x y : A) (r : Result (Unit {0}) E) → k ≡ position_or_len test xs → n ≡ length xs → k < n → x ≡ get_or xs k x → OnOk r (y ≡ change x) → OnOk r (set xs k y ≡ on_first test change new xs)
added_old {A} test change new xs k n x y (Err error) e f h i j = tt
added_old {A} test change new xs k n x y (Ok _) e f h i j =
    let p = position_or_len test xs in
    let at : x ≡ get_or xs p x = rw e at i in
    let g : set xs p (change x) ≡ on_first test change new xs = sym (on_first-old test change new xs x (omega arith) at) in
    rw (j, e) g

-- what is true of all items
pub All-on_first : {A : Type 0} (P : A → Type 0) (test : A → Bool) (change : A → A) (new : A) (xs : List A) → ((x : A) → test x ≡ true → P x → P (change x)) → P new → All P xs → All P (on_first test change new xs)
All-on_first P test change new [] k n h = All-cons P new [] n (All-nil P)
All-on_first {A} P test change new (x ∷ xs) k n h = go (test x) refl (All-on_first P test change new xs k n (All-tail P x xs h)) where
  go : (b : Bool) → test x ≡ b → All P (on_first test change new xs) → All P (cond b (change x ∷ xs) (x ∷ on_first test change new xs))
  go true e i = All-cons P (change x) xs (k x e (All-head P x xs h)) (All-tail P x xs h)
  go false e i = All-cons P x (on_first test change new xs) (All-head P x xs h) i

-- there is at most one item more
pub length-on_first : {A : Type 0} (test : A → Bool) (change : A → A) (new : A) (xs : List A) → length (on_first test change new xs) ≤ length xs + 1
length-on_first test change new [] = omega arith
length-on_first {A} test change new (x ∷ xs) = go (test x) (length-on_first test change new xs) where
  go : (b : Bool) → length (on_first test change new xs) ≤ length xs + 1 → length (cond b (change x ∷ xs) (x ∷ on_first test change new xs)) ≤ length (x ∷ xs) + 1
  go true i = omega arith
  go false i = omega arith

-- an entry put before the first with a greater number
abbrev pub put_before : {A : Type 0} → (A → ℕ) → A → List A → List A
put_before seq x [] = x ∷ []
put_before seq x (y ∷ ys) = cond (nat_lt (seq x) (seq y)) (x ∷ y ∷ ys) (y ∷ put_before seq x ys)

pub put-before : {A : Type 0} (seq : A → ℕ) (x : A) (xs : List A) → put seq x xs ≡ put_before seq x xs
put-before seq x [] = refl
put-before {A} seq x (y ∷ ys) = go (nat_lt (seq x) (seq y)) (put-before seq x ys) where
  go : (b : Bool) → put seq x ys ≡ put_before seq x ys → insert (y ∷ ys) (cond (not b) (1 + position_or_len (λ z. nat_lt (seq x) (seq z)) ys) 0) x ≡ cond b (x ∷ y ∷ ys) (y ∷ put_before seq x ys)
  go true i = refl
  go false i = insert-behind (position_or_len (λ z. nat_lt (seq x) (seq z)) ys) (1 + position_or_len (λ z. nat_lt (seq x) (seq z)) ys) (omega arith) y x ys ∙ ap (λ zs. y ∷ zs) i

All-put_before : {A : Type 0} (P : A → Type 0) (seq : A → ℕ) (x : A) (xs : List A) → P x → All P xs → All P (put_before seq x xs)
All-put_before P seq x [] p a = All-cons P x [] p (All-nil P)
All-put_before {A} P seq x (y ∷ ys) p a = go (nat_lt (seq x) (seq y)) (All-put_before P seq x ys p (All-tail P y ys a)) where
  go : (b : Bool) → All P (put_before seq x ys) → All P (cond b (x ∷ y ∷ ys) (y ∷ put_before seq x ys))
  go true i = All-cons P x (y ∷ ys) p a
  go false i = All-cons P y (put_before seq x ys) (All-head P y ys a) i

length-put_before : {A : Type 0} (seq : A → ℕ) (x : A) (xs : List A) → length (put_before seq x xs) ≡ length xs + 1
length-put_before seq x [] = refl
length-put_before {A} seq x (y ∷ ys) = go (nat_lt (seq x) (seq y)) (length-put_before seq x ys) where
  go : (b : Bool) → length (put_before seq x ys) ≡ length ys + 1 → length (cond b (x ∷ y ∷ ys) (y ∷ put_before seq x ys)) ≡ length (y ∷ ys) + 1
  go true i = omega arith
  go false i = omega arith

-- each item's number is below those of all that follow it
abbrev Rises : {A : Type 0} → (A → ℕ) → List A → Type 0
Rises seq [] = Unit {0}
Rises seq (x ∷ xs) = All (λ y. seq x < seq y) xs × Rises seq xs

head_first : {A : Type 0} (seq : A → ℕ) (x : A) (xs : List A) → AllPairs (λ a b. seq a < seq b) (x ∷ xs) → All (λ y. seq x < seq y) xs
head_first seq x xs h = λ k d l. h 0 (suc k) d (omega arith) (omega arith)

tail_pairs : {A : Type 0} (seq : A → ℕ) (x : A) (xs : List A) → AllPairs (λ a b. seq a < seq b) (x ∷ xs) → AllPairs (λ a b. seq a < seq b) xs
tail_pairs seq x xs h = λ i j d l m. h (suc i) (suc j) d (omega arith) (omega arith)

pairs_rise : {A : Type 0} (seq : A → ℕ) (xs : List A) → AllPairs (λ a b. seq a < seq b) xs → Rises seq xs
pairs_rise seq [] h = tt
pairs_rise seq (x ∷ xs) h = (head_first seq x xs h, pairs_rise seq xs (tail_pairs seq x xs h))

no_pairs : {A : Type 0} (seq : A → ℕ) → AllPairs (λ (a b : A). seq a < seq b) []
no_pairs seq = λ i j d l m. absurd (omega arith)

rise_pairs : {A : Type 0} (seq : A → ℕ) (xs : List A) → Rises seq xs → AllPairs (λ a b. seq a < seq b) xs
rise_pairs seq [] h = no_pairs seq
rise_pairs seq (x ∷ xs) h = AllPairs-cons (λ a b. seq a < seq b) x xs h.0 (rise_pairs seq xs h.1)

or_left : (a b : Bool) → (a || b) ≡ false → a ≡ false
or_left true b e = cc
or_left false b e = refl

or_right : (a b : Bool) → (a || b) ≡ false → b ≡ false
or_right true b e = cc
or_right false b e = e

All-above : {A : Type 0} (seq : A → ℕ) (m n : ℕ) → m < n → (xs : List A) → All (λ y. n < seq y) xs → All (λ y. m < seq y) xs
All-above seq m n l xs h = λ k d i. let j = h k d i in omega arith

put_rises : {A : Type 0} (seq : A → ℕ) (x : A) (xs : List A) → list_any (λ n. n == seq x) (map seq xs) ≡ false → Rises seq xs → Rises seq (put_before seq x xs)
put_rises seq x [] f h = (All-nil (λ y. seq x < seq y), tt)
put_rises {A} seq x (y ∷ ys) f h = go (nat_lt (seq x) (seq y)) refl (put_rises seq x ys (or_right (seq y == seq x) (list_any (λ n. n == seq x) (map seq ys)) f) h.1) where
  above : seq x < seq y → All (λ z. seq x < seq z) (y ∷ ys)
  above l = All-cons (λ z. seq x < seq z) y ys l (All-above seq (seq x) (seq y) l ys h.0)

  below : nat_lt (seq x) (seq y) ≡ false → seq y < seq x
  below e = let g = or_left (seq y == seq x) (list_any (λ n. n == seq x) (map seq ys)) f in grind (arith, nat_tests)

  go : (b : Bool) → nat_lt (seq x) (seq y) ≡ b → Rises seq (put_before seq x ys) → Rises seq (cond b (x ∷ y ∷ ys) (y ∷ put_before seq x ys))
  go true e i = (above (grind (arith, nat_tests)), h)
  go false e i = (All-put_before (λ z. seq y < seq z) seq x ys (below e) h.0, i)

pub All-put : {A : Type 0} (P : A → Type 0) (seq : A → ℕ) (x : A) (xs : List A) → P x → All P xs → All P (put seq x xs)
All-put P seq x xs p h = rw (put-before seq x xs) (All-put_before P seq x xs p h)

pub length-put : {A : Type 0} (seq : A → ℕ) (x : A) (xs : List A) → length (put seq x xs) ≡ length xs + 1
length-put seq x xs = ap length (put-before seq x xs) ∙ length-put_before seq x xs

-- an entry with a number of its own keeps them ascending
pub put-ascends : {A : Type 0} (seq : A → ℕ) (x : A) (xs : List A) → list_any (λ n. n == seq x) (map seq xs) ≡ false → AllPairs (λ a b. seq a < seq b) xs → AllPairs (λ a b. seq a < seq b) (put seq x xs)
put-ascends seq x xs f h = rw (put-before seq x xs) (rise_pairs seq (put_before seq x xs) (put_rises seq x xs f (pairs_rise seq xs h)))

pub one_ascends : {A : Type 0} (seq : A → ℕ) (x : A) → AllPairs (λ a b. seq a < seq b) (x ∷ [])
one_ascends seq x = rise_pairs seq (x ∷ []) (All-nil (λ y. seq x < seq y), tt)

-- the entry that is put stands at its place
pub put-there : {A : Type 0} (seq : A → ℕ) (x : A) (xs : List A) → slice_get (put seq x xs) (place_for seq (seq x) xs) ≡ Some x
put-there {A} seq x xs =
    let n = place_for seq (seq x) xs in
    let h : n ≤ length xs = prefix_len-le-length (λ (y : A). not (nat_lt (seq x) (seq y))) xs in
    let l = length-put seq x xs in
    slice_get_read (put seq x xs) (length (put seq x xs)) n x refl (omega arith) (sym (get_or-insert_at xs n x x h))

-- what is true of all items is true of the one at this place
pub All-at : {A : Type 0} (P : A → Type 0) (xs : List A) (k : ℕ) (x : A) → All P xs → slice_get xs k ≡ Some x → P x
All-at P xs k x h e = subst P (get_or_from_slice_get xs k x x e) (h k x (slice_get_within xs k x e))

-- a change of one item that keeps its number keeps what is true of the numbers of all pairs
same_key : {A : Type 0} (key : A → ℕ) (x : A) (xs : List A) (k : ℕ) (old : A) → slice_get xs k ≡ Some old → key x ≡ key old → (i : ℕ) (d : A) → key (get_or (set xs k x) i d) ≡ key (get_or xs i d)
same_key key x [] k old e s i d = refl
same_key key x (y ∷ ys) zero old e s zero d = let f : y ≡ old = cc in s ∙ sym (ap key f)
same_key key x (y ∷ ys) zero old e s (suc i) d = refl
same_key key x (y ∷ ys) (suc k) old e s zero d = refl
same_key key x (y ∷ ys) (suc k) old e s (suc i) d = same_key key x ys k old e s i d

pub set-pairs : {A : Type 0} (key : A → ℕ) (R : ℕ → ℕ → Type 0) (x : A) (xs : List A) (k : ℕ) (old : A) → slice_get xs k ≡ Some old → key x ≡ key old → AllPairs (λ a b. R (key a) (key b)) xs → AllPairs (λ a b. R (key a) (key b)) (set xs k x)
set-pairs key R x xs k old e s h = λ i j d l m.
    let n = length-set xs k x in
    rw (same_key key x xs k old e s i d, same_key key x xs k old e s j d) (h i j d l (omega arith))

-- the item that is set stands there
pub set-there : {A : Type 0} (xs : List A) (k : ℕ) (x old : A) → slice_get xs k ≡ Some old → slice_get (set xs k x) k ≡ Some x
set-there [] k x old e = cc
set-there (y ∷ ys) zero x old e = refl
set-there (y ∷ ys) (suc k) x old e = set-there ys k x old e

pub slice_get-behind : {A : Type 0} (n m : ℕ) → m ≡ suc n → (y : A) (ys : List A) → slice_get (y ∷ ys) m ≡ slice_get ys n
slice_get-behind n m e y ys = rw e refl

-- what stands at the place of the first that passes
pub on_first-there : {A : Type 0} (test : A → Bool) (change : A → A) (new : A) (xs : List A) → slice_get (on_first test change new xs) (position_or_len test xs) ≡ Some (option_map_or change (slice_get xs (position_or_len test xs)) new)
on_first-there test change new [] = refl
on_first-there {A} test change new (x ∷ xs) = go (test x) (on_first-there test change new xs) where
  p : ℕ
  p = position_or_len test xs

  go : (b : Bool) → slice_get (on_first test change new xs) (position_or_len test xs) ≡ Some (option_map_or change (slice_get xs (position_or_len test xs)) new) → slice_get (cond b (change x ∷ xs) (x ∷ on_first test change new xs)) (cond (not b) (1 + position_or_len test xs) 0) ≡ Some (option_map_or change (slice_get (x ∷ xs) (cond (not b) (1 + position_or_len test xs) 0)) new)
  go true i = refl
  go false i = slice_get-behind p (1 + p) (omega arith) x (on_first test change new xs) ∙ (i ∙ ap (λ o. Some (option_map_or change o new)) (sym (slice_get-behind p (1 + p) (omega arith) x xs)))

-- where no item passes, each fails
pub none_passes : {A : Type 0} (test : A → Bool) (xs : List A) → length xs ≤ position_or_len test xs → All (λ x. test x ≡ false) xs
none_passes test [] h = All-nil (λ x. test x ≡ false)
none_passes {A} test (x ∷ xs) h = go (test x) refl (λ k. none_passes test xs k) h where
  go : (b : Bool) → test x ≡ b → (length xs ≤ position_or_len test xs → All (λ y. test y ≡ false) xs) → length (x ∷ xs) ≤ cond (not b) (1 + position_or_len test xs) 0 → All (λ y. test y ≡ false) (x ∷ xs)
  go true e i l = absurd (omega arith)
  go false e i l = All-cons (λ y. test y ≡ false) x xs e (i (omega arith))

-- parts of a list
pub All-left : {A : Type 0} (P : A → Type 0) (xs ys : List A) → All P (xs ++ ys) → All P xs
All-left P [] ys h = All-nil P
All-left P (x ∷ xs) ys h = All-cons P x xs (All-head P x (xs ++ ys) h) (All-left P xs ys (All-tail P x (xs ++ ys) h))

pub All-last : {A : Type 0} (P : A → Type 0) (xs : List A) (x : A) → All P (xs ++ x ∷ []) → P x
All-last P [] x h = All-head P x [] h
All-last P (y ∷ ys) x h = All-last P ys x (All-tail P y (ys ++ x ∷ []) h)

-- words with the same bytes are one
nat_same : (x y : ℕ) → nat_eq x y ≡ true → x ≡ y
nat_same x y h = grind (arith, nat_tests)

both_true : (a b : Bool) → (a && b) ≡ true → (a ≡ true) × (b ≡ true)
both_true true b h = (refl, h)
both_true false b h = cc

pub same_text_true : (a b : List ℕ) → same_text a b ≡ true → a ≡ b
same_text_true [] [] h = refl
same_text_true [] (y ∷ ys) h = cc
same_text_true (x ∷ xs) [] h = cc
same_text_true (x ∷ xs) (y ∷ ys) h =
    let p = both_true (nat_eq x y) (same_text xs ys) h in
    let e = nat_same x y p.0 in
    let f = same_text_true xs ys p.1 in
    cc
