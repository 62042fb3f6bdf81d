-- Rows at positions: as many as there are positions, searched by halves, and changed by a row put there.
use Rattle.std.proofs.Common.{◌≡◌, ◌≢◌, ℕ, zero, suc, ◌+◌, ◌<◌, ◌≤◌, Bool, true, false, List, [], ◌∷◌, ◌++◌, length, find, ◌&&◌, if◌then◌else◌, Option, Some, None, is_some, refl, sym, ap, ◌∙◌, subst, arith, get_or, set, slice_get, take, length-append}
use Rattle.std.specs.List.{list_all, insert, All}
use Rattle.std.specs.List.Sorted.{IsPartitionedBy, IsPartitionPoint}
use Rattle.std.specs.Ordering.{is_lt, is_eq, ordering_reverse}
use Rattle.std.specs.declared.cmp.Ordering.{Ordering}
use Rattle.std.specs.declared.cmp.Ordering.TheVariants.{Less, Equal, Greater}
use Rattle.std.specs.Str.{bytes_eq}
use Rattle.std.specs.Cmp.{IsTotalOrder}
use Rattle.std.proofs.lemmas.List.{length-set, take_more}
use Rattle.std.proofs.lemmas.List.Elements.{All-cons, All-head, All-tail, All-get_or, All-weaker, All-push}
use Rattle.std.proofs.lemmas.Option.{slice_get-get_or, slice_get_within, get_or_from_slice_get}
use Rattle.desk_tables.specs.Order.{after, before, Ascends, Splits, passing, put, texts_cmp}
use Rattle.desk_tables.specs.Tables.{kept_key}
use Rattle.desk_tables.specs.Kept.{IsOrderOf, at_positions, passes_at}
use Rattle.desk_tables.specs.declared.rows.KeptRow.{KeptRow}
use Rattle.desk_tables.proofs.TableLemmas.{all_at, and_true, before_parts, find_split, splits, texts_tie, texts_total}
use Rattle.desk_tables.proofs.PlaceLemmas.{put_at, put_over}
use Rattle.desk_tables.proofs.PutLemmas.{ascends_put}

-- the positions are those of rows
abbrev pub Within : {X : Type 0} → List X → List ℕ → Type 0
Within rows order = All (λ position. position < length rows) order

some_at : {X : Type 0} (rows : List X) (i : ℕ) → i < length rows → (x : X) × (slice_get rows i ≡ Some x)
some_at [] i low = absurd (omega arith)
some_at (x ∷ xs) i low = (get_or (x ∷ xs) i x, slice_get-get_or (x ∷ xs) i x low)

within_head : {X : Type 0} (rows : List X) (i : ℕ) (is : List ℕ) → Within rows (i ∷ is) → i < length rows
within_head rows i is all = All-head (λ position. position < length rows) i is all

within_tail : {X : Type 0} (rows : List X) (i : ℕ) (is : List ℕ) → Within rows (i ∷ is) → Within rows is
within_tail rows i is all = All-tail (λ position. position < length rows) i is all

-- as many rows as positions
pub length-at_positions : {X : Type 0} (rows : List X) (order : List ℕ) → Within rows order → length (at_positions rows order) ≡ length order
length-at_positions rows [] all = refl
length-at_positions rows (i ∷ is) all =
    let here = some_at rows i (within_head rows i is all) in
    rw here.1 (ap suc (length-at_positions rows is (within_tail rows i is all)))

-- the row at a place is the one at its position
pub slice_get-at_positions : {X : Type 0} (rows : List X) (order : List ℕ) (k d : ℕ) → Within rows order → k < length order → slice_get (at_positions rows order) k ≡ slice_get rows (get_or order k d)
slice_get-at_positions rows [] k d all low = absurd (omega arith)
slice_get-at_positions rows (i ∷ is) zero d all low =
    let here = some_at rows i (within_head rows i is all) in
    rw here.1 refl
slice_get-at_positions rows (i ∷ is) (suc k) d all low =
    let here = some_at rows i (within_head rows i is all) in
    rw here.1 (slice_get-at_positions rows is k d (within_tail rows i is all) (omega arith))

at_place : {X : Type 0} (rows : List X) (order : List ℕ) (k d : ℕ) → Within rows order → k < length order → (x : X) × (slice_get rows (get_or order k d) ≡ Some x) × ((e : X) → get_or (at_positions rows order) k e ≡ x)
at_place rows order k d all low =
    let here = some_at rows (get_or order k d) (All-get_or (λ position. position < length rows) order k d low all) in
    (here.0, here.1, λ e. get_or_from_slice_get (at_positions rows order) k here.0 e (slice_get-at_positions rows order k d all low ∙ here.1))

-- a test at a position is the test of its row
passes_row : {X : Type 0} (p : X → Bool) (rows : List X) (i : ℕ) (x : X) → slice_get rows i ≡ Some x → passes_at p rows i ≡ p x
passes_row {X = X} p rows i x is = rw is (by_case (p x))
  where
    by_case : (b : Bool) → is_some (if b then Some x else None) ≡ b
    by_case true = refl
    by_case false = refl

-- a test that parts the rows parts the positions
pub parted_at : {X : Type 0} (p : X → Bool) (rows : List X) (order : List ℕ) → Within rows order → IsPartitionedBy p (at_positions rows order) → IsPartitionedBy (passes_at p rows) order
parted_at p rows order all parted i j d le low h =
    let last = at_place rows order j d all low in
    let first = at_place rows order i d all (omega arith) in
    let there : p (get_or (at_positions rows order) j last.0) ≡ true = ap p (last.2 last.0) ∙ sym (passes_row p rows (get_or order j d) last.0 last.1) ∙ h in
    let here : p (get_or (at_positions rows order) i last.0) ≡ true = parted i j last.0 le (omega (arith, length-at_positions rows order all)) there in
    passes_row p rows (get_or order i d) first.0 first.1 ∙ ap p (sym (first.2 last.0)) ∙ here

-- and where the positions part, the rows do
point_at : {X : Type 0} (p : X → Bool) (rows : List X) (order : List ℕ) (n : ℕ) → Within rows order → n ≤ length order → IsPartitionPoint (λ i. passes_at p rows i ≡ true) (λ i. passes_at p rows i ≡ false) order n → IsPartitionPoint (λ x. p x ≡ true) (λ x. p x ≡ false) (at_positions rows order) n
point_at p rows order n all low point = (
  λ k e from to.
      let here = at_place rows order k 0 all (omega arith) in
      ap p (here.2 e) ∙ sym (passes_row p rows (get_or order k 0) here.0 here.1) ∙ point.0 k 0 from to,
  λ k e from to.
      let within : k < length order = omega (arith, length-at_positions rows order all) in
      let here = at_place rows order k 0 all within in
      ap p (here.2 e) ∙ sym (passes_row p rows (get_or order k 0) here.0 here.1) ∙ point.1 k 0 from within,
)

pub splits_at : {X : Type 0} (p : X → Bool) (rows : List X) (order : List ℕ) (n : ℕ) → Within rows order → n ≤ length order → IsPartitionPoint (λ i. passes_at p rows i ≡ true) (λ i. passes_at p rows i ≡ false) order n → Splits p (at_positions rows order) n
splits_at p rows order n all low point = splits p (at_positions rows order) n (omega (arith, length-at_positions rows order all)) (point_at p rows order n all low point)

-- the positions of rows in order part before a key
pub before_at : (rows : List KeptRow) (order : List ℕ) (user key : List ℕ) → IsOrderOf rows order → IsPartitionedBy (passes_at (before texts_cmp kept_key (user, key)) rows) order
before_at rows order user key o = parted_at (before texts_cmp kept_key (user, key)) rows order o.within (before_parts texts_cmp kept_key (user, key) texts_total (at_positions rows order) o.sorted)

-- a row can only be found at the place where those before its key end
pub found_at : (rows : List KeptRow) (order : List ℕ) (user key : List ℕ) (n : ℕ) → IsOrderOf rows order → Splits (before texts_cmp kept_key (user, key)) (at_positions rows order) n → find (λ (k : KeptRow). bytes_eq k.user user && bytes_eq k.key key) (at_positions rows order) ≡ passing (λ (k : KeptRow). bytes_eq k.user user && bytes_eq k.key key) (slice_get (at_positions rows order) n)
found_at rows order user key n o split = find_split texts_cmp kept_key (user, key) (λ (k : KeptRow). bytes_eq k.user user && bytes_eq k.key key) texts_total (λ k. texts_tie (kept_key k) (user, key)) (at_positions rows order) n o.sorted split.within split.parts

-- ---- one position more

pub at_positions-push : {X : Type 0} (rows : List X) (order : List ℕ) (i : ℕ) (x : X) → slice_get rows i ≡ Some x → at_positions rows (order ++ i ∷ []) ≡ at_positions rows order ++ x ∷ []
at_positions-push rows [] i x is = rw is refl
at_positions-push {X = X} rows (j ∷ js) i x is = by_case (slice_get rows j) (at_positions-push rows js i x is)
  where
    with_row : Option X → List X → List X
    with_row None xs = xs
    with_row (Some y) xs = y ∷ xs

    by_case : (o : Option X) → at_positions rows (js ++ i ∷ []) ≡ at_positions rows js ++ x ∷ [] → with_row o (at_positions rows (js ++ i ∷ [])) ≡ with_row o (at_positions rows js) ++ x ∷ []
    by_case None rest = rest
    by_case (Some y) rest = ap (λ xs. y ∷ xs) rest

-- ---- a row behind the others

slice_get_front : {X : Type 0} (rows more : List X) (i : ℕ) → i < length rows → slice_get (rows ++ more) i ≡ slice_get rows i
slice_get_front [] more i low = absurd (omega arith)
slice_get_front (x ∷ xs) more zero low = refl
slice_get_front (x ∷ xs) more (suc i) low = slice_get_front xs more i (omega arith)

slice_get_behind : {X : Type 0} (rows : List X) (x : X) → slice_get (rows ++ x ∷ []) (length rows) ≡ Some x
slice_get_behind [] x = refl
slice_get_behind (y ∷ ys) x = slice_get_behind ys x

at_positions_front : {X : Type 0} (rows more : List X) (order : List ℕ) → Within rows order → at_positions (rows ++ more) order ≡ at_positions rows order
at_positions_front rows more [] all = refl
at_positions_front rows more (i ∷ is) all =
    let here = some_at rows i (within_head rows i is all) in
    rw (slice_get_front rows more i (within_head rows i is all), here.1) (ap (λ xs. here.0 ∷ xs) (at_positions_front rows more is (within_tail rows i is all)))

within_more : {X : Type 0} (rows : List X) (x : X) (order : List ℕ) → Within rows order → Within (rows ++ x ∷ []) order
within_more rows x order all = All-weaker (λ position. position < length rows) (λ position. position < length (rows ++ x ∷ [])) (λ i low. omega (arith, length-append rows (x ∷ []))) order all

at_positions-insert : {X : Type 0} (rows : List X) (order : List ℕ) (place i : ℕ) (x : X) → Within rows order → place ≤ length order → slice_get rows i ≡ Some x → at_positions rows (insert order place i) ≡ insert (at_positions rows order) place x
at_positions-insert rows order zero i x all low is = rw is refl
at_positions-insert rows [] (suc place) i x all low is = absurd (omega arith)
at_positions-insert rows (j ∷ js) (suc place) i x all low is =
    let here = some_at rows j (within_head rows j js all) in
    rw here.1 (ap (λ xs. here.0 ∷ xs) (at_positions-insert rows js place i x (within_tail rows j js all) (omega arith) is))

All-insert : (P : ℕ → Type 0) (xs : List ℕ) (place i : ℕ) → P i → place ≤ length xs → All P xs → All P (insert xs place i)
All-insert P xs zero i here low all = All-cons P i xs here all
All-insert P [] (suc place) i here low all = absurd (omega arith)
All-insert P (x ∷ xs) (suc place) i here low all = All-cons P x (insert xs place i) (All-head P x xs all) (All-insert P xs place i here (omega arith) (All-tail P x xs all))

-- what passes is there
passed : {X : Type 0} (p : X → Bool) (o : Option X) → is_some (passing p o) ≡ true → (x : X) × (o ≡ Some x) × (p x ≡ true)
passed p None h = absurd (cc)
passed {X = X} p (Some x) h = (x, refl, by_case (p x) h)
  where
    by_case : (b : Bool) → is_some (if b then Some x else None) ≡ true → b ≡ true
    by_case true h = refl
    by_case false h = absurd (cc)

not_passed : {X : Type 0} (o : Option X) → is_some o ≡ false → o ≡ None
not_passed None h = refl
not_passed (Some x) h = absurd (cc)

-- a row of a new key is put in its place
pub new_is_put : (rows : List KeptRow) (order : List ℕ) (place : ℕ) (row : KeptRow) → IsOrderOf rows order → Splits (before texts_cmp kept_key (row.user, row.key)) (at_positions rows order) place → is_some (passing (λ (k : KeptRow). bytes_eq k.user row.user && bytes_eq k.key row.key) (slice_get (at_positions rows order) place)) ≡ false → at_positions (rows ++ row ∷ []) (insert order place (length rows)) ≡ put texts_cmp kept_key row (at_positions rows order)
new_is_put rows order place row o split none =
    let low : place ≤ length order = omega (arith, split.within, length-at_positions rows order o.within) in
    at_positions-insert (rows ++ row ∷ []) order place (length rows) row (within_more rows row order o.within) low (slice_get_behind rows row)
    ∙ ap (λ xs. insert xs place row) (at_positions_front rows (row ∷ []) order o.within)
    ∙ put_at texts_cmp kept_key row (λ (k : KeptRow). bytes_eq k.user row.user && bytes_eq k.key row.key) texts_total (λ k. texts_tie (kept_key k) (kept_key row)) (at_positions rows order) place split (found_at rows order row.user row.key place o split ∙ not_passed (passing (λ (k : KeptRow). bytes_eq k.user row.user && bytes_eq k.key row.key) (slice_get (at_positions rows order) place)) none)

pub put_keeps_order : (rows rows' : List KeptRow) (order order' : List ℕ) (row : KeptRow) → IsOrderOf rows order → Within rows' order' → at_positions rows' order' ≡ put texts_cmp kept_key row (at_positions rows order) → IsOrderOf rows' order'
put_keeps_order rows rows' order order' row o all is = record { within = all; sorted = subst (Ascends texts_cmp kept_key) (sym is) (ascends_put texts_cmp kept_key row texts_total (at_positions rows order) o.sorted) }

pub new_within : (rows : List KeptRow) (order : List ℕ) (place : ℕ) (row : KeptRow) → IsOrderOf rows order → Splits (before texts_cmp kept_key (row.user, row.key)) (at_positions rows order) place → Within (rows ++ row ∷ []) (insert order place (length rows))
new_within rows order place row o split = All-insert (λ position. position < length (rows ++ row ∷ [])) order place (length rows) (omega (arith, length-append rows (row ∷ []))) (omega (arith, split.within, length-at_positions rows order o.within)) (within_more rows row order o.within)

-- ---- a row over another

slice_get_set : {X : Type 0} (rows : List X) (i : ℕ) (row : X) → i < length rows → slice_get (set rows i row) i ≡ Some row
slice_get_set [] i row low = absurd (omega arith)
slice_get_set (x ∷ xs) zero row low = refl
slice_get_set (x ∷ xs) (suc i) row low = slice_get_set xs i row (omega arith)

slice_get_set_other : {X : Type 0} (rows : List X) (i j : ℕ) (row : X) → i ≢ j → slice_get (set rows i row) j ≡ slice_get rows j
slice_get_set_other [] i j row other = refl
slice_get_set_other (x ∷ xs) zero zero row other = absurd (other refl)
slice_get_set_other (x ∷ xs) zero (suc j) row other = refl
slice_get_set_other (x ∷ xs) (suc i) zero row other = refl
slice_get_set_other (x ∷ xs) (suc i) (suc j) row other = slice_get_set_other xs i j row (λ same. other (ap suc same))

-- no row comes before itself
not_less : {K : Type 0} {cmp : K → K → Ordering} → IsTotalOrder cmp → (k : K) → is_lt (cmp k k) ≡ true → ⊥
not_less {cmp = cmp} o k less = by_case (cmp k k) (o.antisymm k k) less
  where
    by_case : (r : Ordering) → r ≡ ordering_reverse r → is_lt r ≡ true → ⊥
    by_case Less back less = absurd (cc)
    by_case Equal back less = absurd (cc)
    by_case Greater back less = absurd (cc)

some_same : {X : Type 0} {x y : X} → Some x ≡ Some y → x ≡ y
some_same {X = X} {x = x} e = ap (value x) e
  where
    value : X → Option X → X
    value d None = d
    value d (Some z) = z

-- rows one of which comes before the other are at two positions
other_position : {X K : Type 0} (cmp : K → K → Ordering) (key : X → K) → IsTotalOrder cmp → (rows : List X) (i j : ℕ) (x y : X) → slice_get rows i ≡ Some x → slice_get rows j ≡ Some y → after cmp key (key x) y ≡ true → i ≢ j
other_position cmp key o rows i j x y at_i at_j less same =
    let one : y ≡ x = some_same (sym at_j ∙ ap (slice_get rows) (sym same) ∙ at_i) in
    not_less o (key x) (subst (λ z. is_lt (cmp (key x) (key z)) ≡ true) one less)

others_stay : {X K : Type 0} (cmp : K → K → Ordering) (key : X → K) → IsTotalOrder cmp → (rows : List X) (i : ℕ) (x row : X) (is : List ℕ) → slice_get rows i ≡ Some x → Within rows is → list_all (after cmp key (key x)) (at_positions rows is) ≡ true → at_positions (set rows i row) is ≡ at_positions rows is
others_stay cmp key o rows i x row [] here all up = refl
others_stay cmp key o rows i x row (j ∷ js) here all up =
    let there = some_at rows j (within_head rows j js all) in
    let parts = rw there.1 at up in
    let less = and_true (after cmp key (key x) there.0) (list_all (after cmp key (key x)) (at_positions rows js)) parts in
    let same : slice_get (set rows i row) j ≡ slice_get rows j = slice_get_set_other rows i j row (other_position cmp key o rows i j x there.0 here there.1 less.0) in
    rw (same, there.1) (ap (λ xs. there.0 ∷ xs) (others_stay cmp key o rows i x row js here (within_tail rows j js all) less.1))

pub at_positions-set : {X K : Type 0} (cmp : K → K → Ordering) (key : X → K) → IsTotalOrder cmp → (rows : List X) (order : List ℕ) (place d : ℕ) (row : X) → Within rows order → Ascends cmp key (at_positions rows order) → place < length order → at_positions (set rows (get_or order place d) row) order ≡ set (at_positions rows order) place row
at_positions-set cmp key o rows [] place d row all up low = absurd (omega arith)
at_positions-set cmp key o rows (i ∷ is) zero d row all up low =
    let inside = within_head rows i is all in
    let here = some_at rows i inside in
    let parts = rw here.1 at up in
    rw (slice_get_set rows i row inside, here.1) (ap (λ xs. row ∷ xs) (others_stay cmp key o rows i here.0 row is here.1 (within_tail rows i is all) parts.0))
at_positions-set cmp key o rows (i ∷ is) (suc place) d row all up low =
    let rest = within_tail rows i is all in
    let here = some_at rows i (within_head rows i is all) in
    let there = at_place rows is place d rest (omega arith) in
    let parts = rw here.1 at up in
    let long : place < length (at_positions rows is) = omega (arith, length-at_positions rows is rest) in
    let less : after cmp key (key here.0) there.0 ≡ true = subst (λ y. after cmp key (key here.0) y ≡ true) (there.2 here.0) (all_at (after cmp key (key here.0)) (at_positions rows is) place here.0 parts.0 long) in
    let other : get_or is place d ≢ i = λ same. other_position cmp key o rows i (get_or is place d) here.0 there.0 here.1 there.1 less (sym same) in
    rw (slice_get_set_other rows (get_or is place d) i row other, here.1) (ap (λ xs. here.0 ∷ xs) (at_positions-set cmp key o rows is place d row rest parts.1 (omega arith)))

pub passed_within : {X : Type 0} (p : X → Bool) (rows : List X) (order : List ℕ) (place : ℕ) → Within rows order → is_some (passing p (slice_get (at_positions rows order) place)) ≡ true → place < length order
passed_within p rows order place all h =
    let there = passed p (slice_get (at_positions rows order) place) h in
    omega (arith, slice_get_within (at_positions rows order) place there.0 there.1, length-at_positions rows order all)

-- a row over one of its key is put in its place
pub over_is_put : (rows : List KeptRow) (order : List ℕ) (place d : ℕ) (row : KeptRow) → IsOrderOf rows order → is_some (passing (λ (k : KeptRow). bytes_eq k.user row.user && bytes_eq k.key row.key) (slice_get (at_positions rows order) place)) ≡ true → at_positions (set rows (get_or order place d) row) order ≡ put texts_cmp kept_key row (at_positions rows order)
over_is_put rows order place d row o h =
    let same = λ (k : KeptRow). bytes_eq k.user row.user && bytes_eq k.key row.key in
    let there = passed same (slice_get (at_positions rows order) place) h in
    let here : get_or (at_positions rows order) place row ≡ there.0 = get_or_from_slice_get (at_positions rows order) place there.0 row there.1 in
    let tie : is_eq (texts_cmp (kept_key (get_or (at_positions rows order) place row)) (kept_key row)) ≡ true = texts_tie (kept_key (get_or (at_positions rows order) place row)) (kept_key row) ∙ ap same here ∙ there.2 in
    let low = passed_within same rows order place o.within h in
    at_positions-set texts_cmp kept_key texts_total rows order place d row o.within o.sorted low
    ∙ put_over texts_cmp kept_key row texts_total (at_positions rows order) place row o.sorted (omega (arith, low, length-at_positions rows order o.within)) tie

pub over_within : (rows : List KeptRow) (order : List ℕ) (i : ℕ) (row : KeptRow) → Within rows order → Within (set rows i row) order
over_within rows order i row all = All-weaker (λ position. position < length rows) (λ position. position < length (set rows i row)) (λ j low. rw (length-set rows i row) low) order all

-- the positions as far as the rows are counted
pub positions_more : (rows : List KeptRow) (order order' : List ℕ) (i : ℕ) → at_positions rows order ≡ take i rows → Within rows order → i < length rows → order' ≡ order ++ i ∷ [] → (at_positions rows order' ≡ take (i + 1) rows) × Within rows order'
positions_more rows order order' i so all low is =
    let here = some_at rows i low in
    let last : get_or rows i here.0 ≡ here.0 = get_or_from_slice_get rows i here.0 here.0 here.1 in (
      ap (at_positions rows) is ∙ at_positions-push rows order i here.0 here.1 ∙ ap (λ xs. xs ++ here.0 ∷ []) so ∙ sym (take_more rows i here.0 low ∙ ap (λ x. take i rows ++ x ∷ []) last),
      subst (Within rows) (sym is) (All-push (λ position. position < length rows) order i all low),
    )

-- rows and positions where a row of a new key is taken
pub taken_new : (rows rows' : List KeptRow) (order order' : List ℕ) (place : ℕ) (row : KeptRow) → IsOrderOf rows order → Splits (before texts_cmp kept_key (row.user, row.key)) (at_positions rows order) place → is_some (passing (λ (k : KeptRow). bytes_eq k.user row.user && bytes_eq k.key row.key) (slice_get (at_positions rows order) place)) ≡ false → rows' ≡ rows ++ row ∷ [] → order' ≡ insert order place (length rows) → (at_positions rows' order' ≡ put texts_cmp kept_key row (at_positions rows order)) × IsOrderOf rows' order'
taken_new rows rows' order order' place row o split none rows_are order_is =
    let is : at_positions (rows ++ row ∷ []) (insert order place (length rows)) ≡ put texts_cmp kept_key row (at_positions rows order) = new_is_put rows order place row o split none in
    let within = new_within rows order place row o split in
    rw (rows_are, order_is) (is, put_keeps_order rows (rows ++ row ∷ []) order (insert order place (length rows)) row o within is)
