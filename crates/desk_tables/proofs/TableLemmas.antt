-- Where rows stand in a table that is in key order.
use Rattle.std.proofs.Common.{◌≡◌, ℕ, zero, suc, ◌+◌, ◌-◌, ◌<◌, ◌≤◌, Bool, true, false, ◌&&◌, List, [], ◌∷◌, length, get_or, take, drop, filter, find, slice_get, not, nat_lt, nat_le, ◌==◌, if◌then◌else◌, Some, None, is_some, ◌||◌, count_by, ◌≢◌, length-drop, refl, sym, ap, ◌∙◌, arith}
use Rattle.std.specs.List.{list_all, list_any}
use Rattle.std.proofs.lemmas.List.{length-take-le}
use Rattle.std.proofs.lemmas.List.Sums.{length-filter}
use Rattle.std.specs.List.Sorted.{IsPartitionedBy, IsPartitionPoint}
use Rattle.std.specs.Ordering.{is_lt, is_eq, ordering_reverse, nat_cmp, ordering_then}
use Rattle.std.specs.declared.cmp.Ordering.{Ordering}
use Rattle.std.specs.declared.cmp.Ordering.TheVariants.{Less, Equal, Greater}
use Rattle.std.specs.Cmp.{IsTotalOrder}
use Rattle.std.proofs.lemmas.Cmp.{nat_cmp_total, nat_list_cmp_total, then_total, on_total, ranked}
use Rattle.std.specs.Ordering.{MatchOrdering}
use Rattle.std.specs.Str.{bytes_eq}
use Rattle.std.proofs.lemmas.Map.Text.{is_eq-slice_cmp}
use Rattle.std.proofs.lemmas.Bool.Decides.{nat_tests}
use Rattle.desk_tables.specs.declared.rows.FileRow.{FileRow}
use Rattle.net_types.specs.declared.config.SourceFile.{SourceFile}
use Rattle.desk_tables.specs.Tables.{same_files}
use Rattle.desk_tables.specs.Order.{text_cmp, texts_cmp, numbered_cmp, before, after, Ascends, Counts, Splits, passing}

-- the parts of a test that passes
pub and_true : (a b : Bool) → (a && b) ≡ true → (a ≡ true) × (b ≡ true)
and_true true b h = (refl, h)
and_true false b h = absurd (cc)

-- each row passes
pub all_at : {X : Type 0} (p : X → Bool) (xs : List X) (k : ℕ) (d : X) → list_all p xs ≡ true → k < length xs → p (get_or xs k d) ≡ true
all_at p [] k d all low = absurd (omega arith)
all_at p (x ∷ xs) zero d all low = (and_true _ _ all).0
all_at p (x ∷ xs) (suc k) d all low = all_at p xs k d (and_true _ _ all).1 (omega arith)

-- a test that passes of a row where it passes of a later one parts a table in order
pub parted : {X K : Type 0} (cmp : K → K → Ordering) (key : X → K) (p : X → Bool) → ((x y : X) → after cmp key (key x) y ≡ true → p y ≡ true → p x ≡ true) → (xs : List X) → Ascends cmp key xs → IsPartitionedBy p xs
parted cmp key p down [] sorted i j d le low h = absurd (omega arith)
parted cmp key p down (x ∷ xs) sorted zero zero d le low h = h
parted cmp key p down (x ∷ xs) sorted zero (suc j) d le low h = down x (get_or xs j d) (all_at _ xs j d sorted.0 (omega arith)) h
parted cmp key p down (x ∷ xs) sorted (suc i) zero d le low h = absurd (omega arith)
parted cmp key p down (x ∷ xs) sorted (suc i) (suc j) d le low h = parted cmp key p down xs sorted.1 i j d (omega arith) (omega arith) h

-- no row passes
pub none_pass : {X : Type 0} (p : X → Bool) (xs : List X) → ((k : ℕ) (d : X) → k < length xs → p (get_or xs k d) ≡ false) → (filter p xs ≡ []) × (filter (λ x. not (p x)) xs ≡ xs)
none_pass p [] all = (refl, refl)
none_pass p (x ∷ xs) all =
    let here : p x ≡ false = all 0 x (omega arith) in
    let rest = none_pass p xs (λ k d low. all (suc k) d (omega arith)) in
    (rw here rest.0, rw here (ap (λ ys. x ∷ ys) rest.1))

-- the place of a partition splits the table
pub splits : {X : Type 0} (p : X → Bool) (xs : List X) (i : ℕ) → i ≤ length xs → IsPartitionPoint (λ y. p y ≡ true) (λ y. p y ≡ false) xs i → Splits p xs i
splits p [] zero low point = record { within = omega arith; count = refl; front = refl; back = refl; parts = point }
splits p [] (suc i) low point = absurd (omega arith)
splits p (x ∷ xs) zero low point =
    let none = none_pass p (x ∷ xs) (λ k d low. point.1 k d (omega arith) low) in
    record { within = omega arith; count = ap length (sym none.0) ∙ length-filter p (x ∷ xs); front = sym none.0; back = sym none.1; parts = point }
splits p (x ∷ xs) (suc i) low point =
    let here : p x ≡ true = point.0 0 x (omega arith) (omega arith) in
    let rest = splits p xs i (omega arith) (λ k d from to. point.0 (suc k) d (omega arith) (omega arith), λ k d from to. point.1 (suc k) d (omega arith) (omega arith)) in
    let front : x ∷ take i xs ≡ filter p (x ∷ xs) = rw here (ap (λ ys. x ∷ ys) rest.front) in
    record { within = low; count = sym (length-take-le (suc i) (x ∷ xs) low) ∙ ap length front ∙ length-filter p (x ∷ xs); front = front; back = rw here rest.back; parts = point }

-- the keys before a key part a table in order
pub lt_trans : {K : Type 0} {cmp : K → K → Ordering} → IsTotalOrder cmp → (x y z : K) → is_lt (cmp x y) ≡ true → is_lt (cmp y z) ≡ true → is_lt (cmp x z) ≡ true
lt_trans {K} {cmp} o x y z p q = ap is_lt (o.trans x y z (less (cmp x y) p) (less (cmp y z) q))
  where
    less : (r : Ordering) → is_lt r ≡ true → r ≡ Less
    less Less h = refl
    less Equal h = absurd (cc)
    less Greater h = absurd (cc)

pub before_parts : {X K : Type 0} (cmp : K → K → Ordering) (key : X → K) (k : K) → IsTotalOrder cmp → (xs : List X) → Ascends cmp key xs → IsPartitionedBy (before cmp key k) xs
before_parts cmp key k o = parted cmp key (before cmp key k) (λ x y less low. lt_trans o (key x) (key y) k less low)

-- the orders of the tables are total
pub texts_total : IsTotalOrder texts_cmp
texts_total = then_total (on_total (λ (p : List ℕ × List ℕ). p.0) nat_list_cmp_total) (on_total (λ (p : List ℕ × List ℕ). p.1) nat_list_cmp_total)

pub numbered_total : IsTotalOrder numbered_cmp
numbered_total = then_total (on_total (λ (p : ℕ × List ℕ). p.0) nat_cmp_total) (on_total (λ (p : ℕ × List ℕ). p.1) nat_list_cmp_total)

-- the number before does not pass the one behind
pub numbers_rise : (a b : ℕ × List ℕ) → is_lt (numbered_cmp a b) ≡ true → a.0 ≤ b.0
numbers_rise a b h = by_case (nat_cmp a.0 b.0) (text_cmp a.1 b.1) (ranked a.0 b.0 (nat_cmp a.0 b.0) refl) h
  where
    by_case : (r t : Ordering) → MatchOrdering r (a.0 < b.0) (a.0 ≡ b.0) (b.0 < a.0) → is_lt (ordering_then r t) ≡ true → a.0 ≤ b.0
    by_case Less t m h = omega arith
    by_case Equal t m h = omega arith
    by_case Greater t m h = absurd (cc)

-- the rows of lower numbers part a table in order
pub lower_parts : {X : Type 0} (key : X → ℕ × List ℕ) (n : ℕ) (xs : List X) → Ascends numbered_cmp key xs → IsPartitionedBy (λ x. nat_lt (key x).0 n) xs
lower_parts key n = parted numbered_cmp key (λ x. nat_lt (key x).0 n) (λ x y less low.
    let rise = numbers_rise (key x) (key y) less in
    grind (arith, nat_tests))

is_less : (r : Ordering) → is_lt r ≡ true → r ≡ Less
is_less Less h = refl
is_less Equal h = absurd (cc)
is_less Greater h = absurd (cc)

then_tie : (r t : Ordering) → is_eq (ordering_then r t) ≡ (is_eq r && is_eq t)
then_tie Less t = refl
then_tie Equal t = refl
then_tie Greater t = refl

pub numbers_tie : (a b : ℕ) → is_eq (nat_cmp a b) ≡ (a == b)
numbers_tie a b = by_case (nat_cmp a b) (ranked a b (nat_cmp a b) refl)
  where
    by_case : (r : Ordering) → MatchOrdering r (a < b) (a ≡ b) (b < a) → is_eq r ≡ (a == b)
    by_case Less m = grind (arith, nat_tests)
    by_case Equal m = grind (arith, nat_tests)
    by_case Greater m = grind (arith, nat_tests)

-- no row behind a later key is the one of an earlier key
find_none : {X : Type 0} (p : X → Bool) (xs : List X) → ((k : ℕ) (d : X) → k < length xs → p (get_or xs k d) ≡ false) → find p xs ≡ None
find_none p [] all = refl
find_none p (x ∷ xs) all =
    let here : p x ≡ false = all 0 x (omega arith) in
    rw here (find_none p xs (λ k d low. all (suc k) d (omega arith)))

-- in a table that is split before a key, a row of the key can only stand at the place
pub find_split : {X K : Type 0} (cmp : K → K → Ordering) (key : X → K) (k : K) (same : X → Bool) → IsTotalOrder cmp → ((x : X) → is_eq (cmp (key x) k) ≡ same x) → (xs : List X) (i : ℕ) → Ascends cmp key xs → i ≤ length xs → IsPartitionPoint (λ x. before cmp key k x ≡ true) (λ x. before cmp key k x ≡ false) xs i → find same xs ≡ passing same (slice_get xs i)
find_split cmp key k same o eq [] i sorted low parts = refl
find_split {X = X} cmp key k same o eq (x ∷ xs) zero sorted low parts = by_case (cmp (key x) k) (eq x) (parts.1 0 x (omega arith) (omega arith)) (λ greater. find_none same xs (λ j d within. later (get_or xs j d) greater (all_at _ xs j d sorted.0 within)))
  where
    later : (y : X) → cmp (key x) k ≡ Greater → is_lt (cmp (key x) (key y)) ≡ true → same y ≡ false
    later y greater less =
        let over : cmp k (key x) ≡ Less = o.antisymm k (key x) ∙ ap ordering_reverse greater in
        let past : cmp k (key y) ≡ Less = o.trans k (key x) (key y) over (is_less (cmp (key x) (key y)) less) in
        let last : cmp (key y) k ≡ Greater = o.antisymm (key y) k ∙ ap ordering_reverse past in
        sym (eq y) ∙ ap is_eq last

    by_case : (r : Ordering) → is_eq r ≡ same x → is_lt r ≡ false → (r ≡ Greater → find same xs ≡ None) → find same (x ∷ xs) ≡ passing same (Some x)
    by_case Less e b rest = absurd (cc)
    by_case Equal e b rest = rw (← e) refl
    by_case Greater e b rest = rw (← e) (rest refl)
find_split cmp key k same o eq (x ∷ xs) (suc i) sorted low parts = by_case (cmp (key x) k) (eq x) (parts.0 0 x (omega arith) (omega arith)) (find_split cmp key k same o eq xs i sorted.1 (omega arith) (λ j d from to. parts.0 (suc j) d (omega arith) (omega arith), λ j d from to. parts.1 (suc j) d (omega arith) (omega arith)))
  where
    by_case : (r : Ordering) → is_eq r ≡ same x → is_lt r ≡ true → find same xs ≡ passing same (slice_get xs i) → find same (x ∷ xs) ≡ passing same (slice_get xs i)
    by_case Less e b rest = rw (← e) rest
    by_case Equal e b rest = absurd (cc)
    by_case Greater e b rest = absurd (cc)

-- in a table that is numbered through, the row of a number stands at its place
pub find_below : {X : Type 0} (number : X → ℕ) (n : ℕ) (xs : List X) (id : ℕ) → Counts number n xs → id < n → find (λ x. number x == id) xs ≡ None
find_below number n [] id counts low = refl
find_below number n (x ∷ xs) id counts low =
    let rest = find_below number (n + 1) xs id counts.1 (omega arith) in
    grind (arith, nat_tests, counts.0)

pub find_counts : {X : Type 0} (number : X → ℕ) (n : ℕ) (xs : List X) (at id : ℕ) → Counts number n xs → id ≡ n + at → find (λ x. number x == id) xs ≡ slice_get xs at
find_counts number n [] at id counts is = refl
find_counts number n (x ∷ xs) zero id counts is = grind (arith, nat_tests, counts.0)
find_counts number n (x ∷ xs) (suc at) id counts is =
    let rest = find_counts number (n + 1) xs at id counts.1 (omega arith) in
    grind (arith, nat_tests, counts.0)

-- the text orders tie at equal texts
pub texts_tie : (a b : List ℕ × List ℕ) → is_eq (texts_cmp a b) ≡ (bytes_eq a.0 b.0 && bytes_eq a.1 b.1)
texts_tie a b = then_tie (text_cmp a.0 b.0) (text_cmp a.1 b.1) ∙ ap (λ t. t && is_eq (text_cmp a.1 b.1)) (is_eq-slice_cmp a.0 b.0) ∙ ap (λ t. bytes_eq a.0 b.0 && t) (is_eq-slice_cmp a.1 b.1)

pub numbered_tie : (a b : ℕ × List ℕ) → is_eq (numbered_cmp a b) ≡ (a.0 == b.0 && bytes_eq a.1 b.1)
numbered_tie a b = then_tie (nat_cmp a.0 b.0) (text_cmp a.1 b.1) ∙ ap (λ t. t && is_eq (text_cmp a.1 b.1)) (numbers_tie a.0 b.0) ∙ ap (λ t. (a.0 == b.0) && t) (is_eq-slice_cmp a.1 b.1)

pub up_to_parts : {X : Type 0} (key : X → ℕ × List ℕ) (n : ℕ) (xs : List X) → Ascends numbered_cmp key xs → IsPartitionedBy (λ x. nat_le (key x).0 n) xs
up_to_parts key n = parted numbered_cmp key (λ x. nat_le (key x).0 n) (λ x y less low.
    let rise = numbers_rise (key x) (key y) less in
    grind (arith, nat_tests))

-- a split in the rows behind the first
split_tail : {X : Type 0} (p : X → Bool) (x : X) (xs : List X) (i : ℕ) → IsPartitionPoint (λ y. p y ≡ true) (λ y. p y ≡ false) (x ∷ xs) (suc i) → IsPartitionPoint (λ y. p y ≡ true) (λ y. p y ≡ false) xs i
split_tail p x xs i parts = (λ j d from to. parts.0 (suc j) d (omega arith) (omega arith), λ j d from to. parts.1 (suc j) d (omega arith) (omega arith))

split_none : {X : Type 0} (p : X → Bool) (x : X) (xs : List X) → IsPartitionPoint (λ y. p y ≡ true) (λ y. p y ≡ false) (x ∷ xs) zero → IsPartitionPoint (λ y. p y ≡ true) (λ y. p y ≡ false) xs zero
split_none p x xs parts = (λ j d from to. absurd (omega arith), λ j d from to. parts.1 (suc j) d (omega arith) (omega arith))

-- the rows of a number stand between those of lower numbers and those of higher ones
pub between : {X : Type 0} (number : X → ℕ) (n : ℕ) (xs : List X) (a b : ℕ) → IsPartitionPoint (λ x. nat_lt (number x) n ≡ true) (λ x. nat_lt (number x) n ≡ false) xs a → IsPartitionPoint (λ x. nat_le (number x) n ≡ true) (λ x. nat_le (number x) n ≡ false) xs b → a ≤ length xs → b ≤ length xs → (a ≤ b) × (take (b - a) (drop a xs) ≡ filter (λ x. number x == n) xs)
between number n [] zero zero lows highs a-in b-in = (omega arith, refl)
between number n [] zero (suc b) lows highs a-in b-in = absurd (omega arith)
between number n [] (suc a) b lows highs a-in b-in = absurd (omega arith)
between number n (x ∷ xs) zero zero lows highs a-in b-in =
    let rest = between number n xs zero zero (split_none (λ y. nat_lt (number y) n) x xs lows) (split_none (λ y. nat_le (number y) n) x xs highs) (omega arith) (omega arith) in
    let here = highs.1 0 x (omega arith) (omega arith) in
    (omega arith, grind (arith, nat_tests, rest.1))
between number n (x ∷ xs) zero (suc b) lows highs a-in b-in =
    let rest = between number n xs zero b (split_none (λ y. nat_lt (number y) n) x xs lows) (split_tail (λ y. nat_le (number y) n) x xs b highs) (omega arith) (omega arith) in
    let low = lows.1 0 x (omega arith) (omega arith) in
    let high = highs.0 0 x (omega arith) (omega arith) in
    let same : (number x == n) ≡ true = grind (arith, nat_tests) in
    let all : suc b - 0 ≡ suc b = omega arith in
    let most : b - 0 ≡ b = omega arith in
    let tail : take b xs ≡ filter (λ y. number y == n) xs = rw most at rest.1 in
    (omega arith, rw (all, same) (ap (λ ys. x ∷ ys) tail))
between number n (x ∷ xs) (suc a) zero lows highs a-in b-in =
    let low = lows.0 0 x (omega arith) (omega arith) in
    let high = highs.1 0 x (omega arith) (omega arith) in
    absurd (grind (arith, nat_tests))
between number n (x ∷ xs) (suc a) (suc b) lows highs a-in b-in =
    let rest = between number n xs a b (split_tail (λ y. nat_lt (number y) n) x xs a lows) (split_tail (λ y. nat_le (number y) n) x xs b highs) (omega arith) (omega arith) in
    let low = lows.0 0 x (omega arith) (omega arith) in
    let other : (number x == n) ≡ false = grind (arith, nat_tests) in
    let steps : suc b - suc a ≡ b - a = omega arith in
    (omega (arith, rest.0), rw (steps, other) rest.1)

-- as many as the two places are apart
pub count_between : {X : Type 0} (number : X → ℕ) (n : ℕ) (xs : List X) (a b : ℕ) → Splits (λ x. nat_lt (number x) n) xs a → Splits (λ x. nat_le (number x) n) xs b → (a ≤ b) × (b - a ≡ count_by (λ x. number x == n) xs)
count_between number n xs a b lows highs =
    let both = between number n xs a b lows.parts highs.parts lows.within highs.within in
    let long : length (take (b - a) (drop a xs)) ≡ b - a = length-take-le (b - a) (drop a xs) (omega (arith, length-drop a xs, highs.within, lows.within, both.0)) in
    (both.0, sym long ∙ ap length both.1 ∙ length-filter (λ x. number x == n) xs)

-- a row that passes is one that is found
pub any_find : {X : Type 0} (p : X → Bool) (xs : List X) → list_any p xs ≡ is_some (find p xs)
any_find p [] = refl
any_find p (x ∷ xs) = by_case (p x) (any_find p xs)
  where
    by_case : (b : Bool) → list_any p xs ≡ is_some (find p xs) → (b || list_any p xs) ≡ is_some (if b then Some x else find p xs)
    by_case true rest = refl
    by_case false rest = rest

-- lists of two lengths are not the same files
pub other_length : (rows : List FileRow) (files : List SourceFile) → length rows ≢ length files → same_files rows files ≡ false
other_length [] [] differ = absurd (differ refl)
other_length [] (g ∷ gs) differ = refl
other_length (f ∷ fs) [] differ = refl
other_length (f ∷ fs) (g ∷ gs) differ = both_false (bytes_eq f.name g.name && bytes_eq f.body g.text) _ (other_length fs gs (λ same. differ (ap suc same)))
  where
    both_false : (a b : Bool) → b ≡ false → (a && b) ≡ false
    both_false true b h = h
    both_false false b h = refl
