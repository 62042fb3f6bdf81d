-- Where rows are put: inserted at their place, over a row of the same key, or behind all others.
use Rattle.std.proofs.Common.{◌≡◌, ℕ, zero, suc, ◌+◌, ◌<◌, ◌≤◌, Bool, true, false, List, [], ◌∷◌, ◌++◌, length, map, find, filter, not, ◌&&◌, ◌==◌, if◌then◌else◌, Option, Some, None, refl, sym, ap, ◌∙◌, arith, take, drop, get_or, set, slice_get, is_some}
use Rattle.std.specs.List.{list_all, insert, list_any}
use Rattle.std.specs.Ordering.{is_lt, is_eq, ordering_reverse, nat_cmp, MatchOrdering}
use Rattle.std.specs.declared.cmp.Ordering.{Ordering}
use Rattle.std.specs.declared.cmp.Ordering.TheVariants.{Less, Equal, Greater}
use Rattle.std.specs.Str.{bytes_eq}
use Rattle.std.specs.Cmp.{IsTotalOrder}
use Rattle.std.proofs.lemmas.Bool.Decides.{nat_tests}
use Rattle.std.proofs.lemmas.Cmp.{nat_cmp_total, ranked, tied_back, alike_right}
use Rattle.std.proofs.lemmas.List.Folds.{list_all-append}
use Rattle.desk_tables.specs.Order.{before, after, Ascends, Counts, put, numbered_cmp, Splits, passing}
use Rattle.desk_tables.specs.Tables.{approval_key, certificate_key, at_review}
use Rattle.desk_tables.specs.declared.rows.ReviewRow.{ReviewRow}
use Rattle.desk_tables.specs.declared.rows.ApprovalRow.{ApprovalRow}
use Rattle.desk_tables.specs.declared.rows.CertificateRow.{CertificateRow}
use Rattle.desk_tables.proofs.TableLemmas.{and_true, all_at, any_find, find_split, numbered_total, numbered_tie, numbers_tie}
use Rattle.desk_tables.proofs.PutLemmas.{all_then, filter_none}

-- an approval that is not there is not found
pub none_found : {X : Type 0} (p : X → Bool) (xs : List X) → list_any p xs ≡ false → find p xs ≡ None
none_found {X = X} p xs none = by_case (find p xs) (any_find p xs)
  where
    by_case : (o : Option X) → list_any p xs ≡ is_some o → o ≡ None
    by_case None is = refl
    by_case (Some x) is = absurd (cc)

-- an insert at a place
insert_parts : {X : Type 0} (xs : List X) (i : ℕ) (x : X) → i ≤ length xs → insert xs i x ≡ take i xs ++ x ∷ drop i xs
insert_parts xs zero x low = refl
insert_parts [] (suc i) x low = absurd (omega arith)
insert_parts (y ∷ ys) (suc i) x low = ap (λ zs. y ∷ zs) (insert_parts ys i x (omega arith))

-- where no row has the key, the rows that do not come before it come after it
after_rest : {X K : Type 0} (cmp : K → K → Ordering) (key : X → K) (k : K) (same : X → Bool) → IsTotalOrder cmp → ((x : X) → is_eq (cmp (key x) k) ≡ same x) → (xs : List X) → find same xs ≡ None → filter (λ x. not (before cmp key k x)) xs ≡ filter (after cmp key k) xs
after_rest cmp key k same o eq [] none = refl
after_rest {X = X} cmp key k same o eq (x ∷ xs) none = by_case (cmp (key x) k) (cmp k (key x)) (o.antisymm k (key x)) (eq x) (same x) refl none (after_rest cmp key k same o eq xs)
  where
    by_case : (r t : Ordering) → t ≡ ordering_reverse r → is_eq r ≡ same x → (b : Bool) → b ≡ same x → (if b then Some x else find same xs) ≡ None → (find same xs ≡ None → filter (λ x. not (before cmp key k x)) xs ≡ filter (after cmp key k) xs) → (if not (is_lt r) then x ∷ filter (λ x. not (before cmp key k x)) xs else filter (λ x. not (before cmp key k x)) xs) ≡ (if is_lt t then x ∷ filter (after cmp key k) xs else filter (after cmp key k) xs)
    by_case r t back tie true is none rest = absurd (cc)
    by_case Less t back tie false is none rest = rw back (rest none)
    by_case Equal t back tie false is none rest = absurd (cc)
    by_case Greater t back tie false is none rest = rw back (ap (λ ys. x ∷ ys) (rest none))

-- a new row inserted where the rows before its key end is put in its place
pub put_at : {X K : Type 0} (cmp : K → K → Ordering) (key : X → K) (row : X) (same : X → Bool) → IsTotalOrder cmp → ((x : X) → is_eq (cmp (key x) (key row)) ≡ same x) → (xs : List X) (i : ℕ) → Splits (before cmp key (key row)) xs i → find same xs ≡ None → insert xs i row ≡ put cmp key row xs
put_at cmp key row same o eq xs i split none = insert_parts xs i row split.within ∙ rw (split.front, split.back, after_rest cmp key (key row) same o eq xs none) refl

pub put_approval_at : (row : ApprovalRow) (xs : List ApprovalRow) (i : ℕ) → Splits (before numbered_cmp approval_key (row.review, row.user)) xs i → list_any (λ (a : ApprovalRow). a.review == row.review && bytes_eq a.user row.user) xs ≡ false → insert xs i row ≡ put numbered_cmp approval_key row xs
put_approval_at row xs i split none = put_at numbered_cmp approval_key row (λ (a : ApprovalRow). a.review == row.review && bytes_eq a.user row.user) numbered_total (λ a. numbered_tie (approval_key a) (approval_key row)) xs i split (none_found (λ (a : ApprovalRow). a.review == row.review && bytes_eq a.user row.user) xs none)

-- reviews of higher numbers are not the one that is changed
pub changed_rest : (id n : ℕ) (change : ReviewRow → ReviewRow) (xs : List ReviewRow) → Counts (λ r. r.id) n xs → id < n → map (at_review id change) xs ≡ xs
changed_rest id n change [] counts low = refl
changed_rest id n change (x ∷ xs) counts low =
    let other : (x.id == id) ≡ false = grind (arith, nat_tests, counts.0) in
    rw other (ap (λ ys. x ∷ ys) (changed_rest id (n + 1) change xs counts.1 (omega arith)))

-- a review set in its place is the one that is changed
pub set_is_changed : (id n at : ℕ) (change : ReviewRow → ReviewRow) (xs : List ReviewRow) (d : ReviewRow) → Counts (λ (r : ReviewRow). r.id) n xs → id ≡ n + at → at < length xs → set xs at (change (get_or xs at d)) ≡ map (at_review id change) xs
set_is_changed id n at change [] d counts is low = absurd (omega arith)
set_is_changed id n zero change (x ∷ xs) d counts is low =
    let here : (x.id == id) ≡ true = grind (arith, nat_tests, counts.0) in
    rw here (ap (λ ys. change x ∷ ys) (sym (changed_rest id (n + 1) change xs counts.1 (omega arith))))
set_is_changed id n (suc at) change (x ∷ xs) d counts is low =
    let other : (x.id == id) ≡ false = grind (arith, nat_tests, counts.0) in
    rw other (ap (λ ys. x ∷ ys) (set_is_changed id (n + 1) at change xs d counts.1 (omega arith) (omega arith)))

pub append_nil : {X : Type 0} (xs : List X) → xs ++ [] ≡ xs
append_nil [] = refl
append_nil (x ∷ xs) = ap (λ ys. x ∷ ys) (append_nil xs)

all_kept : {X : Type 0} (p : X → Bool) (xs : List X) → list_all p xs ≡ true → filter p xs ≡ xs
all_kept p [] all = refl
all_kept p (x ∷ xs) all =
    let parts = and_true (p x) (list_all p xs) all in
    rw parts.0 (ap (λ ys. x ∷ ys) (all_kept p xs parts.1))

all_dropped : {X : Type 0} (p q : X → Bool) → ((x : X) → p x ≡ true → q x ≡ false) → (xs : List X) → list_all p xs ≡ true → filter q xs ≡ []
all_dropped p q apart [] all = refl
all_dropped p q apart (x ∷ xs) all =
    let parts = and_true (p x) (list_all p xs) all in
    rw (apart x parts.0) (all_dropped p q apart xs parts.1)

not_after : {X K : Type 0} (cmp : K → K → Ordering) (key : X → K) (k : K) → IsTotalOrder cmp → (x : X) → before cmp key k x ≡ true → after cmp key k x ≡ false
not_after cmp key k o x less = by_case (cmp (key x) k) (cmp k (key x)) (o.antisymm k (key x)) less
  where
    by_case : (r t : Ordering) → t ≡ ordering_reverse r → is_lt r ≡ true → is_lt t ≡ false
    by_case Less t back less = rw back refl
    by_case Equal t back less = absurd (cc)
    by_case Greater t back less = absurd (cc)

pub is_below : (m n : ℕ) → m < n → is_lt (nat_cmp m n) ≡ true
is_below m n low = by_case (nat_cmp m n) (ranked m n (nat_cmp m n) refl)
  where
    by_case : (r : Ordering) → MatchOrdering r (m < n) (m ≡ n) (n < m) → is_lt r ≡ true
    by_case Less is = refl
    by_case Equal is = absurd (omega arith)
    by_case Greater is = absurd (omega arith)

-- a row behind all others is put at the end
pub put_last : {X K : Type 0} (cmp : K → K → Ordering) (key : X → K) (row : X) → IsTotalOrder cmp → (xs : List X) → list_all (before cmp key (key row)) xs ≡ true → put cmp key row xs ≡ xs ++ row ∷ []
put_last cmp key row o xs all = rw (all_kept (before cmp key (key row)) xs all, all_dropped (before cmp key (key row)) (after cmp key (key row)) (λ x less. not_after cmp key (key row) o x less) xs all) refl

-- rows in order come before those behind them
pub ascends_before : {X K : Type 0} (cmp : K → K → Ordering) (key : X → K) (xs ys : List X) (y : X) → Ascends cmp key (xs ++ y ∷ ys) → list_all (before cmp key (key y)) xs ≡ true
ascends_before cmp key [] ys y sorted = refl
ascends_before cmp key (x ∷ xs) ys y sorted =
    let parts = and_true (list_all (after cmp key (key x)) xs) (list_all (after cmp key (key x)) (y ∷ ys)) (sym (list_all-append (after cmp key (key x)) xs (y ∷ ys)) ∙ sorted.0) in
    let less = and_true (after cmp key (key x) y) (list_all (after cmp key (key x)) ys) parts.1 in
    rw (less.0, ascends_before cmp key xs ys y sorted.1) refl

is_tied : (r : Ordering) → is_eq r ≡ true → r ≡ Equal
is_tied Less h = absurd (cc)
is_tied Equal h = refl
is_tied Greater h = absurd (cc)

is_under : (r : Ordering) → is_lt r ≡ true → r ≡ Less
is_under Less h = refl
is_under Equal h = absurd (cc)
is_under Greater h = absurd (cc)

not_before : {X K : Type 0} (cmp : K → K → Ordering) (key : X → K) (k : K) → IsTotalOrder cmp → (x : X) → after cmp key k x ≡ true → before cmp key k x ≡ false
not_before cmp key k o x more = ap is_lt (o.antisymm (key x) k ∙ ap ordering_reverse (is_under (cmp k (key x)) more))

-- a row over one of the same key is put in its place
pub put_over : {X K : Type 0} (cmp : K → K → Ordering) (key : X → K) (row : X) → IsTotalOrder cmp → (xs : List X) (i : ℕ) (d : X) → Ascends cmp key xs → i < length xs → is_eq (cmp (key (get_or xs i d)) (key row)) ≡ true → set xs i row ≡ put cmp key row xs
put_over cmp key row o [] i d sorted low tie = absurd (omega arith)
put_over cmp key row o (x ∷ xs) zero d sorted low tie =
    let here : cmp (key x) (key row) ≡ Equal = is_tied (cmp (key x) (key row)) tie in
    let back : cmp (key row) (key x) ≡ Equal = tied_back o (key x) (key row) here in
    let more : list_all (after cmp key (key row)) xs ≡ true = all_then (after cmp key (key x)) (after cmp key (key row)) (λ y above. ap is_lt (sym (o.congr (key x) (key row) (key y) here)) ∙ above) xs sorted.0 in
    let none : filter (before cmp key (key row)) xs ≡ [] = filter_none (after cmp key (key row)) (before cmp key (key row)) (λ y above. not_before cmp key (key row) o y above) xs more in
    rw (here, back, none, all_kept (after cmp key (key row)) xs more) refl
put_over cmp key row o (x ∷ xs) (suc i) d sorted low tie =
    let at = get_or xs i d in
    let same : cmp (key at) (key row) ≡ Equal = is_tied (cmp (key at) (key row)) tie in
    let over : is_lt (cmp (key x) (key at)) ≡ true = all_at (after cmp key (key x)) xs i d sorted.0 (omega arith) in
    let less : cmp (key x) (key row) ≡ Less = sym (alike_right o (key at) (key row) (key x) same) ∙ is_under (cmp (key x) (key at)) over in
    let back : cmp (key row) (key x) ≡ Greater = o.antisymm (key row) (key x) ∙ ap ordering_reverse less in
    rw (less, back) (ap (λ ys. x ∷ ys) (put_over cmp key row o xs i d sorted.1 (omega arith) tie))

-- where the row at the place is not of the review, none is
none_there : (xs : List CertificateRow) (review i : ℕ) → Ascends nat_cmp certificate_key xs → Splits (before nat_cmp certificate_key review) xs i → passing (λ (c : CertificateRow). c.review == review) (slice_get xs i) ≡ None → find (λ (c : CertificateRow). c.review == review) xs ≡ None
none_there xs review i sorted split none = find_split nat_cmp certificate_key review (λ (c : CertificateRow). c.review == review) nat_cmp_total (λ c. numbers_tie c.review review) xs i sorted split.within split.parts ∙ none

pub put_certificate_at : (row : CertificateRow) (xs : List CertificateRow) (i : ℕ) → Ascends nat_cmp certificate_key xs → Splits (before nat_cmp certificate_key row.review) xs i → passing (λ (c : CertificateRow). c.review == row.review) (slice_get xs i) ≡ None → insert xs i row ≡ put nat_cmp certificate_key row xs
put_certificate_at row xs i sorted split none = put_at nat_cmp certificate_key row (λ (c : CertificateRow). c.review == row.review) nat_cmp_total (λ c. numbers_tie c.review row.review) xs i split (none_there xs row.review i sorted split none)

pub put_certificate_over : (row : CertificateRow) (xs : List CertificateRow) (i : ℕ) (d : CertificateRow) → Ascends nat_cmp certificate_key xs → i < length xs → ((get_or xs i d).review == row.review) ≡ true → set xs i row ≡ put nat_cmp certificate_key row xs
put_certificate_over row xs i d sorted low same = put_over nat_cmp certificate_key row nat_cmp_total xs i d sorted low (numbers_tie (get_or xs i d).review row.review ∙ same)

-- a row of the next number comes behind all others
pub numbers_before : {X : Type 0} (number : X → ℕ) (n k : ℕ) (xs : List X) → Counts number n xs → k ≡ n + length xs → list_all (before nat_cmp number k) xs ≡ true
numbers_before number n k [] counts is = refl
numbers_before number n k (x ∷ xs) counts is =
    let less : is_lt (nat_cmp (number x) k) ≡ true = is_below (number x) k (omega (arith, counts.0)) in
    rw (less, numbers_before number (n + 1) k xs counts.1 (omega arith)) refl

-- and so it is put at the end
pub put_next : {X : Type 0} (number : X → ℕ) (row : X) (xs : List X) → Counts number 1 xs → number row ≡ length xs + 1 → put nat_cmp number row xs ≡ xs ++ row ∷ []
put_next number row xs counts is = put_last nat_cmp number row nat_cmp_total xs (numbers_before number 1 (number row) xs counts (omega (arith, is)))
