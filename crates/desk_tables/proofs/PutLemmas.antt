-- What a row put in its place does to a table.
use Rattle.std.proofs.Common.{◌≡◌, ℕ, zero, suc, ◌+◌, ◌≤◌, Bool, true, false, ◌&&◌, List, [], ◌∷◌, ◌++◌, length, filter, find, ◌==◌, if◌then◌else◌, Some, None, refl, sym, ap, ◌∙◌, arith, sum_by, length-append}
use Rattle.std.specs.Ordering.{is_lt, is_eq, ordering_reverse}
use Rattle.std.specs.declared.cmp.Ordering.{Ordering}
use Rattle.std.specs.declared.cmp.Ordering.TheVariants.{Less, Equal, Greater}
use Rattle.std.specs.Cmp.{IsTotalOrder}
use Rattle.std.specs.List.{list_all, All}
use Rattle.std.proofs.lemmas.List.Folds.{list_all-append}
use Rattle.std.proofs.lemmas.List.Elements.{All-filter, All-append, All-cons}
use Rattle.std.proofs.lemmas.Option.{slice_get_within}
use Rattle.std.specs.Option.{option_to_list}
use Rattle.std.proofs.lemmas.List.Sums.{sum_by-append, sum_by-cons}
use Rattle.desk_tables.specs.Order.{before, after, Ascends, Counts, put}
use Rattle.desk_tables.proofs.TableLemmas.{and_true, lt_trans, find_below, find_counts}

-- a key that no row has: each row is before it or after it
pub parts_length : {X K : Type 0} (cmp : K → K → Ordering) (key : X → K) (k : K) (same : X → Bool) → IsTotalOrder cmp → ((x : X) → is_eq (cmp (key x) k) ≡ same x) → (xs : List X) → find same xs ≡ None → length (filter (before cmp key k) xs) + length (filter (after cmp key k) xs) ≡ length xs
parts_length cmp key k same o eq [] none = refl
parts_length {X = X} cmp key k same o eq (x ∷ xs) none = by_case (cmp (key x) k) (cmp k (key x)) (o.antisymm k (key x)) (eq x) (same x) refl none (parts_length cmp key k same o eq xs)
  where
    by_case : (r t : Ordering) → t ≡ ordering_reverse r → is_eq r ≡ same x → (b : Bool) → b ≡ same x → (if b then Some x else find same xs) ≡ None → (find same xs ≡ None → length (filter (before cmp key k) xs) + length (filter (after cmp key k) xs) ≡ length xs) → length (if is_lt r then x ∷ filter (before cmp key k) xs else filter (before cmp key k) xs) + length (if is_lt t then x ∷ filter (after cmp key k) xs else filter (after cmp key k) xs) ≡ suc (length xs)
    by_case r t back tie true is none rest = absurd (cc)
    by_case Less t back tie false is none rest = rw back (omega (arith, rest none))
    by_case Equal t back tie false is none rest = absurd (cc)
    by_case Greater t back tie false is none rest = rw back (omega (arith, rest none))

-- a new key makes the table longer by one
pub length-put : {X K : Type 0} (cmp : K → K → Ordering) (key : X → K) (row : X) (same : X → Bool) → IsTotalOrder cmp → ((x : X) → is_eq (cmp (key x) (key row)) ≡ same x) → (xs : List X) → find same xs ≡ None → length (put cmp key row xs) ≡ length xs + 1
length-put cmp key row same o eq xs none = omega (arith, length-append (filter (before cmp key (key row)) xs) (row ∷ filter (after cmp key (key row)) xs), parts_length cmp key (key row) same o eq xs none)

and_of : (a b : Bool) → a ≡ true → b ≡ true → (a && b) ≡ true
and_of a b h k = rw (h, k) refl

-- what follows for each row
pub all_then : {X : Type 0} (p q : X → Bool) → ((x : X) → p x ≡ true → q x ≡ true) → (xs : List X) → list_all p xs ≡ true → list_all q xs ≡ true
all_then p q imply [] all = refl
all_then p q imply (x ∷ xs) all =
    let parts = and_true _ _ all in
    and_of _ _ (imply x parts.0) (all_then p q imply xs parts.1)

-- a filter leaves what passes
pub all_filtered : {X : Type 0} (p : X → Bool) (xs : List X) → list_all p (filter p xs) ≡ true
all_filtered p [] = refl
all_filtered {X = X} p (x ∷ xs) = by_case (p x) refl (all_filtered p xs)
  where
    by_case : (b : Bool) → b ≡ p x → list_all p (filter p xs) ≡ true → list_all p (if b then x ∷ filter p xs else filter p xs) ≡ true
    by_case true is rest = and_of _ _ (sym is) rest
    by_case false is rest = rest

all_of_filtered : {X : Type 0} (p q : X → Bool) (xs : List X) → list_all q xs ≡ true → list_all q (filter p xs) ≡ true
all_of_filtered p q [] all = refl
all_of_filtered p q (x ∷ xs) all = by_case (p x) (all_of_filtered p q xs (and_true _ _ all).1)
  where
    by_case : (b : Bool) → list_all q (filter p xs) ≡ true → list_all q (if b then x ∷ filter p xs else filter p xs) ≡ true
    by_case true rest = and_of _ _ (and_true _ _ all).0 rest
    by_case false rest = rest

-- a filter of a table in order is in order
pub ascends_filter : {X K : Type 0} (cmp : K → K → Ordering) (key : X → K) (p : X → Bool) (xs : List X) → Ascends cmp key xs → Ascends cmp key (filter p xs)
ascends_filter cmp key p [] sorted = tt
ascends_filter cmp key p (x ∷ xs) sorted = by_case (p x) (ascends_filter cmp key p xs sorted.1)
  where
    by_case : (b : Bool) → Ascends cmp key (filter p xs) → Ascends cmp key (if b then x ∷ filter p xs else filter p xs)
    by_case true rest = (all_of_filtered p (after cmp key (key x)) xs sorted.0, rest)
    by_case false rest = rest

-- two tables in order, the one before the other, are one in order
pub ascends_append : {X K : Type 0} (cmp : K → K → Ordering) (key : X → K) (xs ys : List X) → Ascends cmp key xs → Ascends cmp key ys → list_all (λ x. list_all (after cmp key (key x)) ys) xs ≡ true → Ascends cmp key (xs ++ ys)
ascends_append cmp key [] ys xs-in ys-in all = ys-in
ascends_append cmp key (x ∷ xs) ys xs-in ys-in all =
    let parts = and_true _ _ all in
    (list_all-append (after cmp key (key x)) xs ys ∙ and_of _ _ xs-in.0 parts.0, ascends_append cmp key xs ys xs-in.1 ys-in parts.1)

-- a table with a row put in its place is in order
pub ascends_put : {X K : Type 0} (cmp : K → K → Ordering) (key : X → K) (row : X) → IsTotalOrder cmp → (xs : List X) → Ascends cmp key xs → Ascends cmp key (put cmp key row xs)
ascends_put cmp key row o xs sorted =
    let low = filter (before cmp key (key row)) xs in
    let high = filter (after cmp key (key row)) xs in
    ascends_append cmp key low (row ∷ high) (ascends_filter cmp key _ xs sorted) (all_filtered (after cmp key (key row)) xs, ascends_filter cmp key _ xs sorted)
    (all_then (before cmp key (key row)) (λ x. list_all (after cmp key (key x)) (row ∷ high)) (λ x less. and_of _ _ less (all_then (after cmp key (key row)) (after cmp key (key x)) (λ y more. lt_trans o (key x) (key row) (key y) less more) high (all_filtered (after cmp key (key row)) xs))) low (all_filtered (before cmp key (key row)) xs))

-- what holds of each row and of the new one
pub All-put : {X K : Type 0} (P : X → Type 0) (cmp : K → K → Ordering) (key : X → K) (row : X) (xs : List X) → P row → All P xs → All P (put cmp key row xs)
All-put P cmp key row xs here all = All-append P (filter (before cmp key (key row)) xs) (row ∷ filter (after cmp key (key row)) xs) (All-filter (before cmp key (key row)) P xs all) (All-cons P row (filter (after cmp key (key row)) xs) here (All-filter (after cmp key (key row)) P xs all))

-- what passes one test, and not another
pub filter_none : {X : Type 0} (p q : X → Bool) → ((x : X) → p x ≡ true → q x ≡ false) → (xs : List X) → list_all p xs ≡ true → filter q xs ≡ []
filter_none p q apart [] all = refl
filter_none p q apart (x ∷ xs) all =
    let parts = and_true (p x) (list_all p xs) all in
    rw (apart x parts.0) (filter_none p q apart xs parts.1)

is_tied : (r : Ordering) → is_eq r ≡ true → r ≡ Equal
is_tied Less h = absurd (cc)
is_tied Equal h = refl
is_tied Greater h = absurd (cc)

is_under : (r : Ordering) → is_lt r ≡ true → r ≡ Less
is_under Less h = refl
is_under Equal h = absurd (cc)
is_under Greater h = absurd (cc)

-- in a table in order at most one row has a key
pub one_tied : {X K : Type 0} (cmp : K → K → Ordering) (key : X → K) (k : K) (same : X → Bool) → IsTotalOrder cmp → ((x : X) → is_eq (cmp (key x) k) ≡ same x) → (xs : List X) → Ascends cmp key xs → filter same xs ≡ option_to_list (find same xs)
one_tied cmp key k same o eq [] sorted = refl
one_tied {X = X} cmp key k same o eq (x ∷ xs) sorted = by_case (same x) refl (one_tied cmp key k same o eq xs sorted.1)
  where
    by_case : (b : Bool) → same x ≡ b → filter same xs ≡ option_to_list (find same xs) → (if b then x ∷ filter same xs else filter same xs) ≡ option_to_list (if b then Some x else find same xs)
    by_case true is rest = ap (λ ys. x ∷ ys) (filter_none (after cmp key (key x)) same (λ y more.
        let here : cmp (key x) k ≡ Equal = is_tied (cmp (key x) k) (eq x ∙ is) in
        let up : cmp k (key y) ≡ Less = sym (o.congr (key x) k (key y) here) ∙ is_under (cmp (key x) (key y)) more in
        let down : cmp (key y) k ≡ Greater = o.antisymm (key y) k ∙ ap ordering_reverse up in
        sym (eq y) ∙ ap is_eq down) xs sorted.0)
    by_case false is rest = rest

-- the rows before a key, at it and after it are all rows
pub sum_parts : {X K : Type 0} (cmp : K → K → Ordering) (key : X → K) (k : K) (same : X → Bool) (f : X → ℕ) → IsTotalOrder cmp → ((x : X) → is_eq (cmp (key x) k) ≡ same x) → (xs : List X) → sum_by f xs ≡ sum_by f (filter (before cmp key k) xs) + (sum_by f (filter same xs) + sum_by f (filter (after cmp key k) xs))
sum_parts cmp key k same f o eq [] = refl
sum_parts {X = X} cmp key k same f o eq (x ∷ xs) = by_case (cmp (key x) k) (cmp k (key x)) (o.antisymm k (key x)) (same x) (sym (eq x)) (sum_by-cons f x xs) (sum_parts cmp key k same f o eq xs) (sum_by-cons f x (filter (before cmp key k) xs)) (sum_by-cons f x (filter same xs)) (sum_by-cons f x (filter (after cmp key k) xs))
  where
    by_case : (r t : Ordering) → t ≡ ordering_reverse r → (b : Bool) → b ≡ is_eq r → sum_by f (x ∷ xs) ≡ f x + sum_by f xs → sum_by f xs ≡ sum_by f (filter (before cmp key k) xs) + (sum_by f (filter same xs) + sum_by f (filter (after cmp key k) xs)) → sum_by f (x ∷ filter (before cmp key k) xs) ≡ f x + sum_by f (filter (before cmp key k) xs) → sum_by f (x ∷ filter same xs) ≡ f x + sum_by f (filter same xs) → sum_by f (x ∷ filter (after cmp key k) xs) ≡ f x + sum_by f (filter (after cmp key k) xs) → sum_by f (x ∷ xs) ≡ sum_by f (if is_lt r then x ∷ filter (before cmp key k) xs else filter (before cmp key k) xs) + (sum_by f (if b then x ∷ filter same xs else filter same xs) + sum_by f (if is_lt t then x ∷ filter (after cmp key k) xs else filter (after cmp key k) xs))
    by_case Less t back b is whole rest low tie high = rw (back, is) (omega arith)
    by_case Equal t back b is whole rest low tie high = rw (back, is) (omega arith)
    by_case Greater t back b is whole rest low tie high = rw (back, is) (omega arith)

-- a row put in its place adds its own, less that of the row of the same key
pub sum_put : {X K : Type 0} (cmp : K → K → Ordering) (key : X → K) (row : X) (f : X → ℕ) → (xs : List X) → sum_by f (put cmp key row xs) ≡ sum_by f (filter (before cmp key (key row)) xs) + (f row + sum_by f (filter (after cmp key (key row)) xs))
sum_put cmp key row f xs = sum_by-append f (filter (before cmp key (key row)) xs) (row ∷ filter (after cmp key (key row)) xs) ∙ ap (λ n. sum_by f (filter (before cmp key (key row)) xs) + n) (sum_by-cons f row (filter (after cmp key (key row)) xs))

-- as many as there are ones
pub sum_ones : {X : Type 0} (xs : List X) → sum_by (λ x. 1) xs ≡ length xs
sum_ones [] = refl
sum_ones (x ∷ xs) =
    let first = sum_by-cons (λ y. 1) x xs in
    let rest = sum_ones xs in
    omega (arith, first, rest)

-- one more of a table that is numbered through
pub counts_push : {X : Type 0} (number : X → ℕ) (n : ℕ) (xs : List X) (x : X) → Counts number n xs → number x ≡ n + length xs → Counts number n (xs ++ x ∷ [])
counts_push number n [] x counts is = (omega arith, tt)
counts_push number n (y ∷ ys) x counts is = (counts.0, counts_push number (n + 1) ys x counts.1 (omega arith))

-- a row that is found by its number is one of those there
pub found_up_to : {X : Type 0} (number : X → ℕ) (xs : List X) (id : ℕ) (x : X) → Counts number 1 xs → find (λ y. number y == id) xs ≡ Some x → (1 ≤ id) × (id ≤ length xs)
found_up_to number xs zero x counts found = absurd (none_some (sym (find_below number 1 xs zero counts (omega arith)) ∙ found))
  where
    none_some : {X : Type 0} {x : X} → None ≡ Some x → ⊥
    none_some h = absurd (cc)
found_up_to number xs (suc id) x counts found =
    let at = sym (find_counts number 1 xs id (suc id) counts (omega arith)) ∙ found in
    let within = slice_get_within xs id x at in
    (omega arith, omega arith)
