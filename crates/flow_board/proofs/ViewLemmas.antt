-- What the steps on words tell of rows.
use Rattle.std.proofs.Common.{◌≡◌, ◌≢◌, ℕ, zero, suc, ◌+◌, ◌-◌, ◌*◌, ◌/◌, ◌%◌, ◌<◌, ◌≤◌, ◌⊎◌, inl, inr, List, [], ◌∷◌, length, get_or, set, sym, refl, ap, ◌∙◌, subst, arith, length-set, get_or-set_same, get_or-set_other, zero-add, ◌++◌, drop, drop-cons, append_assoc, add-one}
use Rattle.std.proofs.Math.Nat.{div-add-mod}
use Rattle.std.proofs.lemmas.List.{get_or-append_right, get_or_append_left}
use Rattle.abstract_route.specs.declared.rows.Row.{Row}
use Rattle.abstract_route.specs.Rows.{IsBelow, IsRow, bottom, joined, row_at}
use Rattle.flow_board.specs.RowLists.{AreBelow, AreRows}
use Rattle.flow_board.specs.declared.view.View.{View}
use Rattle.flow_board.specs.declared.view.View.TheVariants.{Alone, Live, Spent}
use Rattle.flow_board.specs.Order.{Kind, kind_at, kind_of, Below, merged, AllBelow, least, blank}
use Rattle.flow_board.specs.Rule.{IsSplitable, AreJoinable, both_of, merge_from, Closes}
use Rattle.flow_board.specs.WordSteps.{raised_from, FitsRow, ToldRow, LooksRow, LookedRow}
use Rattle.flow_board.specs.RowWords.{row_words, words_of, row_from, rows_of, start_of, roof_of, own_of, IsReady, IsMet, IsRaised, IsOpened, IsJoined, IsClosed}
use Rattle.flow_board.proofs.RuleLemmas.{blank_at, length-blank, merge_at, length-merge}
use Rattle.flow_board.proofs.WordStepLemmas.{length-raised, raised_past}
use Rattle.flow_board.proofs.RowWordLemmas.{each_word, kind_in_row, row_from_below, words_below, row_from_words, row_from_same, row_from_merged, length-rows_of, row_at-rows_of, length-words_of, words_at, same_rows, rows_of_words, rows_of_below}

pub ready_looks : (n u : ℕ) (v : View) → u < n → IsReady n v → LooksRow (14 * u) 14 v
unfolding IsReady
ready_looks n u (Alone s) h ready = absurd ready
ready_looks n u (Live s r own) h ready = let e = ready.2 in omega arith
ready_looks n u Spent h ready = absurd ready

pub ready_splits : (n : ℕ) (v : View) → IsReady n v → IsSplitable v
unfolding IsReady
ready_splits n (Alone s) ready = ready
ready_splits n (Live s r own) ready = tt
ready_splits n Spent ready = ready

pub ready_joins : (n : ℕ) (v w : View) → IsReady n v → IsReady n w → AreJoinable v w
unfolding IsReady
ready_joins n (Alone s) w a b = a
ready_joins n (Live s r own) (Alone s') a b = b
ready_joins n (Live s r own) (Live s' r' own') a b = tt
ready_joins n (Live s r own) Spent a b = b
ready_joins n Spent w a b = a

-- words that lie between words, at the places of a row
met_from : (n u : ℕ) (s r own found : List ℕ) → u < n → ((k : ℕ) → k < 14 → Below (kind_of (14 * u + k)) (get_or s (14 * u + k) 0) (get_or found k 0)
    × Below (kind_of (14 * u + k)) (get_or own (14 * u + k) 0) (get_or found k 0)
    × Below (kind_of (14 * u + k)) (get_or found k 0) (get_or r (14 * u + k) 0)) → IsMet n u (Live s r own) (row_from found 0)
unfolding start_of own_of roof_of
met_from n u s r own found h all = record {
  start = rw (row_at-rows_of n s u h) (row_from_below s found (14 * u) 0 (λ k l. rw (zero-add k) (subst (λ (q : Kind). Below q (get_or s (14 * u + k) 0) (get_or found k 0)) (kind_in_row u k l) (all k l).0)));
  own = rw (row_at-rows_of n own u h) (row_from_below own found (14 * u) 0 (λ k l. rw (zero-add k) (subst (λ (q : Kind). Below q (get_or own (14 * u + k) 0) (get_or found k 0)) (kind_in_row u k l) (all k l).1)));
  roof = rw (row_at-rows_of n r u h) (row_from_below found r 0 (14 * u) (λ k l. rw (zero-add k) (subst (λ (q : Kind). Below q (get_or found k 0) (get_or r (14 * u + k) 0)) (kind_in_row u k l) (all k l).2)));
}

pub looked_met : (n u : ℕ) (v : View) (found : List ℕ) (w : View) → u < n → IsReady n v → LookedRow (14 * u) 14 v found w → IsMet n u v (row_from found 0)
unfolding IsReady
looked_met n u (Alone s) found w h ready told = absurd ready
looked_met n u (Live s r own) found w h ready told = met_from n u s r own found h told.1
looked_met n u Spent found w h ready told = absurd ready

pub looked_same : (n u : ℕ) (v : View) (found : List ℕ) (w : View) → IsReady n v → LookedRow (14 * u) 14 v found w → w ≡ v
unfolding IsReady
looked_same n u (Alone s) found w ready told = absurd ready
looked_same n u (Live s r own) found w ready told = told.0
looked_same n u Spent found w ready told = absurd ready

-- a row under the roof may be raised
pub fits_row : (n u : ℕ) (v : View) (row : Row) → u < n → IsReady n v → IsBelow row (row_at (roof_of n v) u) → FitsRow (14 * u) (row_words row) v
unfolding IsReady roof_of
fits_row n u (Alone s) row h ready below = absurd ready
fits_row n u (Live s r own) row h ready below =
    let b : IsBelow row (row_from r (14 * u)) = subst (λ (x : Row). IsBelow row x) (row_at-rows_of n r u h) below in (
      (let e = ready.2 in omega arith),
      λ k l. subst (λ (q : Kind). Below q (get_or (row_words row) k 0) (get_or r (14 * u + k) 0)) (sym (kind_in_row u k l)) (words_below row r (14 * u) b k l),
    )
fits_row n u Spent row h ready below = absurd ready

-- the words before those raised are as before
raised_before : (i : ℕ) (row own : List ℕ) (k : ℕ) → k < i → get_or (raised_from i row own) k 0 ≡ get_or own k 0
raised_before i [] own k before = refl
raised_before i (x ∷ xs) own k before =
    let other : k ≢ i = λ e. omega arith in
    raised_before (suc i) xs (set own i (merged (kind_of i) (get_or own i 0) x)) k (omega arith) ∙ get_or-set_other own i k _ 0 other

-- the words raised
raised_here : (i : ℕ) (row own : List ℕ) (k : ℕ) → k < length row → i + length row ≤ length own → get_or (raised_from i row own) (i + k) 0 ≡ merged (kind_of (i + k)) (get_or own (i + k) 0) (get_or row k 0)
raised_here i [] own k h room = absurd (omega arith)
raised_here i (x ∷ xs) own zero h room =
    let e : i + zero ≡ i = omega arith in
    rw e (raised_before (suc i) xs (set own i (merged (kind_of i) (get_or own i 0) x)) i (omega arith) ∙ get_or-set_same own i (merged (kind_of i) (get_or own i 0) x) 0 (omega arith))
raised_here i (x ∷ xs) own (suc k) h room =
    let m : ℕ = merged (kind_of i) (get_or own i 0) x in
    let e : i + suc k ≡ suc i + k = omega arith in
    let size = length-set own i m in
    let other : suc i + k ≢ i = λ e. omega arith in
    rw e (raised_here (suc i) xs (set own i m) k (omega arith) (omega arith) ∙ ap (λ (y : ℕ). merged (kind_of (suc i + k)) y (get_or xs k 0)) (get_or-set_other own i (suc i + k) m 0 other))

here_or_not : (u at : ℕ) → (u ≡ at) ⊎ (u ≢ at)
here_or_not u at = grind arith

apart : (x u k : ℕ) → x ≢ u → k < 14 → (14 * x + k < 14 * u) ⊎ (14 * u + 14 ≤ 14 * x + k)
apart x u k h l = elim (less_or_more x u h) [ inl a ↦ inl (omega arith) | inr b ↦ inr (omega arith) ]
  where
    less_or_more : (x u : ℕ) → x ≢ u → (x < u) ⊎ (u < x)
    less_or_more x u h = grind arith

raised_rows_of : (n u : ℕ) (own : List ℕ) (row : Row) → u < n → length own ≡ 14 * n → rows_of n (raised_from (14 * u) (row_words row) own) ≡ set (rows_of n own) u (joined (row_at (rows_of n own) u) row)
raised_rows_of n u own row h long = same_rows (rows_of n grown) (set (rows_of n own) u j) (length-rows_of n grown ∙ sym (length-set (rows_of n own) u j ∙ length-rows_of n own)) (λ x l. each x (let e = length-rows_of n grown in omega arith) (here_or_not x u))
  where
    grown : List ℕ
    grown = raised_from (14 * u) (row_words row) own

    j : Row
    j = joined (row_at (rows_of n own) u) row

    here : row_at (rows_of n grown) u ≡ j
    here = row_at-rows_of n grown u h
        ∙ row_from_merged grown own row (14 * u) (λ k l. raised_here (14 * u) (row_words row) own k l (omega arith) ∙ ap (λ (q : Kind). merged q (get_or own (14 * u + k) 0) (get_or (row_words row) k 0)) (kind_in_row u k l))
        ∙ ap (λ (r : Row). joined r row) (sym (row_at-rows_of n own u h))

    word : (x k : ℕ) → x ≢ u → k < 14 → get_or grown (14 * x + k) 0 ≡ get_or own (14 * x + k) 0
    word x k other l = elim (apart x u k other l) [
      | inl a ↦ raised_before (14 * u) (row_words row) own (14 * x + k) a
      | inr b ↦ raised_past (14 * u) (row_words row) own (14 * x + k) b
    ]

    each : (x : ℕ) → x < n → (x ≡ u) ⊎ (x ≢ u) → row_at (rows_of n grown) x ≡ row_at (set (rows_of n own) u j) x
    each x l (inl same) = rw same (here ∙ sym (get_or-set_same (rows_of n own) u j bottom (let e = length-rows_of n own in omega arith)))
    each x l (inr other) = row_at-rows_of n grown x l ∙ row_from_same grown own (14 * x) (14 * x) (λ k m. word x k other m) ∙ sym (row_at-rows_of n own x l) ∙ sym (get_or-set_other (rows_of n own) u x j bottom other)

raised_live : (n u : ℕ) (s r own : List ℕ) (row : Row) → u < n → IsReady n (Live s r own) → IsRaised n u row (Live s r own) (Live s r (raised_from (14 * u) (row_words row) own))
unfolding IsReady start_of own_of roof_of
raised_live n u s r own row h ready = record {
  ready = (ready.0, ready.1, length-raised (14 * u) (row_words row) own ∙ ready.2);
  start = refl;
  roof = refl;
  own = raised_rows_of n u own row h ready.2;
}

pub told_raised : (n u : ℕ) (v : View) (row : Row) (old : List ℕ) (w : View) → u < n → IsReady n v → ToldRow (14 * u) (row_words row) v old w → IsRaised n u row v w
unfolding IsReady
told_raised n u (Alone s) row old w h ready told = absurd ready
told_raised n u (Live s r own) row old w h ready told = let P : View → Type 0 = λ x. IsRaised n u row (Live s r own) x in subst P (sym told.0) (raised_live n u s r own row h ready)
told_raised n u Spent row old w h ready told = absurd ready

pub told_met : (n u : ℕ) (v : View) (row : Row) (old : List ℕ) (w : View) → u < n → IsReady n v → ToldRow (14 * u) (row_words row) v old w → IsMet n u v (row_from old 0)
unfolding IsReady
told_met n u (Alone s) row old w h ready told = absurd ready
told_met n u (Live s r own) row old w h ready told = met_from n u s r own old h told.1
told_met n u Spent row old w h ready told = absurd ready

plain : (x : ℕ) → x + 0 ≡ x
plain x = omega arith

word_of : (ws : List ℕ) (i k : ℕ) → k < 14 → get_or ws (i + k) 0 ≡ get_or (row_words (row_from ws i)) k 0
unfolding row_from
word_of ws i = each_word (λ k. get_or ws (i + k) 0 ≡ get_or (row_words (row_from ws i)) k 0) (ap (λ (m : ℕ). get_or ws m 0) (plain i)) refl refl refl refl refl refl refl refl refl refl refl refl refl

-- the raises of two seats
pub joined_both : (n : ℕ) (v w : View) → IsReady n v → IsReady n w → IsJoined n v w (both_of v w)
unfolding IsReady start_of own_of roof_of
joined_both n (Alone s) w a b = absurd a
joined_both n (Live s r own) (Alone s') a b = absurd b
joined_both n (Live s r own) (Live s' r' own') a b = record {
  ready = (a.0, a.1, length-merge 0 own own' ∙ a.2);
  start = refl;
  roof = refl;
  long = length-rows_of n (merge_from 0 own own');
  own = λ u h. row_at-rows_of n (merge_from 0 own own') u h
      ∙ row_from_merged (merge_from 0 own own') own (row_at (rows_of n own') u) (14 * u) (λ k l.
      (rw (zero-add (14 * u + k)) at (merge_at 0 own own' (14 * u + k) (let e = a.2 in omega arith)))
      ∙ ap (λ (q : Kind). merged q (get_or own (14 * u + k) 0) (get_or own' (14 * u + k) 0)) (kind_in_row u k l)
      ∙ ap (λ (y : ℕ). merged (kind_at k) (get_or own (14 * u + k) 0) y) (word u k h l))
      ∙ ap (λ (x : Row). joined x (row_at (rows_of n own') u)) (sym (row_at-rows_of n own u h));
} where
  word : (u k : ℕ) → u < n → k < 14 → get_or own' (14 * u + k) 0 ≡ get_or (row_words (row_at (rows_of n own') u)) k 0
  word u k h l = word_of own' (14 * u) k l ∙ ap (λ (x : Row). get_or (row_words x) k 0) (sym (row_at-rows_of n own' u h))
joined_both n (Live s r own) Spent a b = absurd b
joined_both n Spent w a b = absurd a

-- the words at the start
pub words_under : (xs ys : List Row) → AreBelow xs ys → AllBelow (words_of xs) (words_of ys)
words_under xs ys p i h =
    let e : 14 * (i / 14) + i % 14 ≡ i = div-add-mod i 14 in
    subst (λ (m : ℕ). Below (kind_of m) (get_or (words_of xs) m 0) (get_or (words_of ys) m 0)) e (place (i / 14) (i % 14) (let l = length-words_of ys in omega arith) (omega arith))
  where
    place : (u k : ℕ) → u < length ys → k < 14 → Below (kind_of (14 * u + k)) (get_or (words_of xs) (14 * u + k) 0) (get_or (words_of ys) (14 * u + k) 0)
    place u k h l =
        let x : u < length xs = let e = p.long in omega arith in
        rw (words_at xs u k x l, words_at ys u k h l)
        (subst (λ (q : Kind). Below q (get_or (row_words (row_at xs u)) k 0) (get_or (row_words (row_at ys u)) k 0)) (sym (kind_in_row u k l))
        (rw (zero-add k) at (words_below (row_at xs u) (row_words (row_at ys u)) 0 (subst (λ (r : Row). IsBelow (row_at xs u) r) (sym (row_from_words (row_at ys u))) (p.each u x)) k l)))

blank_word : (k : ℕ) → k < 14 → least (kind_at k) ≡ get_or (row_words bottom) k 0
blank_word = each_word (λ k. least (kind_at k) ≡ get_or (row_words bottom) k 0) refl refl refl refl refl refl refl refl refl refl refl refl refl refl

opened : (n : ℕ) (rows top : List Row) → length rows ≡ n → length top ≡ n → IsOpened n rows top (Live (words_of rows) (words_of top) (blank (words_of rows)))
unfolding IsReady start_of own_of roof_of
opened n rows top a b =
    let ws : List ℕ = words_of rows in
    let size = length-words_of rows in
    let size' = length-words_of top in record {
      ready = (omega arith, omega arith, length-blank 0 ws ∙ omega arith);
      start = rows_of_words rows n a;
      roof = rows_of_words top n b;
      long = length-rows_of n (blank ws);
      own = λ u h. row_at-rows_of n (blank ws) u h ∙ row_from_same (blank ws) (row_words bottom) (14 * u) 0 (λ k l. rw (zero-add k) (
          blank_at 0 ws (14 * u + k) (omega arith) ∙ ap (λ (m : ℕ). least (kind_of m)) (zero-add (14 * u + k)) ∙ ap least (kind_in_row u k l) ∙ blank_word k l)) ∙ row_from_words bottom;
    }

pub opened_live : (n : ℕ) (rows top : List Row) (v : View) → length rows ≡ n → length top ≡ n → v ≡ Live (words_of rows) (words_of top) (blank (words_of rows)) → IsOpened n rows top v
opened_live n rows top v a b is = let P : View → Type 0 = λ x. IsOpened n rows top x in subst P (sym is) (opened n rows top a b)

-- the rows at the end
closed : (n : ℕ) (v : View) (ws : List ℕ) → AreRows (rows_of n ws) → IsReady n v → Closes v ws → length ws ≡ 14 * n → IsClosed n v (rows_of n ws)
unfolding IsReady start_of own_of roof_of
closed n (Alone s) ws fit ready closes long = absurd ready
closed n (Live s r own) ws fit ready closes long = record {
  long = length-rows_of n ws;
  rows_fit = fit;
  start = rows_of_below n s ws long closes.0;
  own = rows_of_below n own ws long closes.1;
  roof = rows_of_below n ws r ready.1 closes.2;
}
closed n Spent ws fit ready closes long = absurd ready

pub closed_rows : (n : ℕ) (v : View) (ws : List ℕ) (rows : List Row) → IsReady n v → Closes v ws → length ws ≡ 14 * n → length rows ≡ n
    → ((u : ℕ) → u < n → (row_at rows u ≡ row_from ws (14 * u)) × IsRow (row_at rows u)) → IsClosed n v rows
closed_rows n v ws rows ready closes long many each = subst (λ (xs : List Row). IsClosed n v xs) (sym same) (closed n v ws fit ready closes long)
  where
    same : rows ≡ rows_of n ws
    same = same_rows rows (rows_of n ws) (many ∙ sym (length-rows_of n ws)) (λ u h. let low : u < n = omega arith in (each u low).0 ∙ sym (row_at-rows_of n ws u low))

    fit : AreRows (rows_of n ws)
    fit = subst (λ (xs : List Row). AreRows xs) same (record { each = λ u h. (each u (omega arith)).1 })

-- one row more was written as words
pub next_words : (rows : List Row) (done : List ℕ) (j : ℕ) (r : Row) → j < length rows → r ≡ get_or rows j r → done ++ words_of (drop j rows) ≡ words_of rows → (done ++ row_words r) ++ words_of (drop (j + 1) rows) ≡ words_of rows
unfolding words_of
next_words rows done j r h is all =
    let e : drop j rows ≡ r ∷ drop (j + 1) rows = rw add-one (drop-cons rows j r h ∙ ap (λ (x : Row). x ∷ drop (suc j) rows) (sym is)) in
    append_assoc done (row_words r) (words_of (drop (j + 1) rows)) ∙ ap (λ (xs : List Row). done ++ words_of xs) (sym e) ∙ all

zero_off : (n : ℕ) → n - n ≡ 0
zero_off n = omega arith

-- one row more was read from words
pub next_row : (n : ℕ) (rows : List Row) (ws : List ℕ) (r : Row) → length rows ≡ n → ((u : ℕ) → u < n → (row_at rows u ≡ row_from ws (14 * u)) × IsRow (row_at rows u)) → r ≡ row_from ws (14 * n) → IsRow r
    → (u : ℕ) → u < n + 1 → (row_at (rows ++ r ∷ []) u ≡ row_from ws (14 * u)) × IsRow (row_at (rows ++ r ∷ []) u)
next_row n rows ws r long all is small u h = elim (last_or_not u n h) [
  | inl last ↦ rw (last, at_end) (is, small)
  | inr before ↦ let e : row_at (rows ++ r ∷ []) u ≡ row_at rows u = get_or_append_left rows (r ∷ []) bottom u (omega arith) in rw e (all u before)
]
  where
    last_or_not : (u n : ℕ) → u < n + 1 → (u ≡ n) ⊎ (u < n)
    last_or_not u n h = grind arith

    at_end : row_at (rows ++ r ∷ []) n ≡ r
    at_end = get_or-append_right rows (r ∷ []) n n bottom long (omega arith) ∙ ap (λ (m : ℕ). get_or (r ∷ []) m bottom) (zero_off n)

pub opened_words : (rows top : List Row) (ws : List ℕ) (v : View) → length top ≡ length rows → ws ≡ words_of rows → v ≡ Live ws (words_of top) (blank ws) → IsOpened (length rows) rows top v
opened_words rows top ws v long is at = opened_live (length rows) rows top v refl long (at ∙ ap (λ (xs : List ℕ). Live xs (words_of top) (blank xs)) is)

pub length-start_of : (n : ℕ) (v : View) → IsReady n v → length (start_of n v) ≡ n
unfolding IsReady start_of
length-start_of n (Alone s) ready = absurd ready
length-start_of n (Live s r own) ready = length-rows_of n s
length-start_of n Spent ready = absurd ready

pub length-roof_of : (n : ℕ) (v : View) → IsReady n v → length (roof_of n v) ≡ n
unfolding IsReady roof_of
length-roof_of n (Alone s) ready = absurd ready
length-roof_of n (Live s r own) ready = length-rows_of n r
length-roof_of n Spent ready = absurd ready

pub length-own_of : (n : ℕ) (v : View) → IsReady n v → length (own_of n v) ≡ n
unfolding IsReady own_of
length-own_of n (Alone s) ready = absurd ready
length-own_of n (Live s r own) ready = length-rows_of n own
length-own_of n Spent ready = absurd ready
