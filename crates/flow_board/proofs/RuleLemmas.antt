-- Each step keeps the rule.
use Rattle.std.proofs.Common.{◌≡◌, ℕ, zero, suc, ◌+◌, ◌<◌, add-zero, zero-add, List, [], ◌∷◌, length, get_or, set, sym, refl, ap, ◌∙◌, subst, inl, inr, ⊎_elim, arith, length-set, get_or-set_same, get_or-set_other}
use mathlib.Core.Option.{none, some, some-injective, some-ne-none}
use mathlib.Core.Logic.{dite}
use native.Mathlib.Decide.{ℕ_discrete}
use lib.ListN.{get_elem?}
use Rattle.atomic_table.specs.Table.{step, keeps, Allows, Splits, Joins}
use Rattle.atomic_table.proofs.Lists.{at_set, at_snoc, set_again, set_else}
use Rattle.flow_board.specs.Order.{Kind, kind_of, Below, merged, AllBelow, least, blank, blank_from}
use Rattle.flow_board.specs.Rule.{Knows, Kept, Fits, IsLive, Raises, Looks, Settled, Closes, IsSplitable, AreJoinable, merge_from, both_of}
use Rattle.flow_board.specs.declared.view.View.{View}
use Rattle.flow_board.specs.declared.view.View.TheVariants.{Alone, Live, Spent}
use Rattle.flow_board.proofs.OrderLemmas.{below_itself, below_trans, below_merged_left, merged_least, merged_mono, least_below}

-- a word that rises stays above what was below it
pub above_set : (a w : List ℕ) (i n : ℕ) → AllBelow a w → i < length w → Below (kind_of i) (get_or w i 0) n → AllBelow a (set w i n)
above_set a w i n all within up j j_within =
    let short : j < length w = rw (← length-set w i n) j_within in
    dite (ℕ_discrete j i)
    (λ same. subst (λ k. Below (kind_of k) (get_or a k 0) (get_or (set w i n) k 0)) (sym same)
    (rw (get_or-set_same w i n 0 within) (below_trans (kind_of i) (get_or a i 0) (get_or w i 0) n (all i within) up)))
    (λ other. rw (get_or-set_other w i j n 0 other) (all j short))

-- a word that rises stays below what is above it and above the new value
pub under_set : (w r : List ℕ) (i n : ℕ) → AllBelow w r → i < length w → Below (kind_of i) n (get_or r i 0) → AllBelow (set w i n) r
under_set w r i n all within under j j_within =
    dite (ℕ_discrete j i)
    (λ same. subst (λ k. Below (kind_of k) (get_or (set w i n) k 0) (get_or r k 0)) (sym same)
    (rw (get_or-set_same w i n 0 within) under))
    (λ other. rw (get_or-set_other w i j n 0 other) (all j j_within))

pub both_set : (a w : List ℕ) (i m n : ℕ) → length a ≡ length w → AllBelow a w → i < length w → Below (kind_of i) m n → AllBelow (set a i m) (set w i n)
both_set a w i m n same all within below j j_within =
    let short : j < length w = rw (← length-set w i n) j_within in
    dite (ℕ_discrete j i)
    (λ here. subst (λ k. Below (kind_of k) (get_or (set a i m) k 0) (get_or (set w i n) k 0)) (sym here)
    (rw (get_or-set_same w i n 0 within, get_or-set_same a i m 0 (omega arith)) below))
    (λ other. rw (get_or-set_other w i j n 0 other, get_or-set_other a i j m 0 other) (all j short))

-- what another seat knows stays true
pub knows_set : (w start roof : List ℕ) (i n : ℕ) (v : View) → i < length w → Below (kind_of i) (get_or w i 0) n → Knows w start roof v → Knows (set w i n) start roof v
knows_set w start roof i n (Alone s) within up k = k
knows_set w start roof i n (Live s r own) within up k = (k.0, k.1, k.2 ∙ sym (length-set w i n), above_set own w i n k.3 within up)
knows_set w start roof i n Spent within up k = tt

-- the only seat before the roof is named is not live
pub not_alone : (ws s r own : List ℕ) (id : ℕ) → get_elem? (Alone ws ∷ []) id ≡ some (Live s r own) → ⊥
not_alone ws s r own zero e = let bad : Alone ws ≡ Live s r own = some-injective _ _ e in cc
not_alone ws s r own (suc id) e = some-ne-none _ (sym e)

pub raises_live : (slots id i k : ℕ) (s r own : List ℕ) (held : List (ℕ × Unit {0})) → Fits i k (Live s r own)
    → Allows Kept slots id (Live s r own, held) i (λ n. merged (kind_of i) n k) (Raises (step slots i k 0 none) (Live s r own, held))
raises_live slots id i k s r own held fits t (inl alone) _ at _ = absurd (not_alone t.words s r own id (rw (← alone) at))
raises_live slots id i k s r own held fits t (inr (start, roof, kept)) _ at _ =
    let n : ℕ = get_or t.words i 0 in
    let m : ℕ = merged (kind_of i) n k in
    let mine = kept.known id (Live s r own) at in
    let within : i < length t.words = let h = fits.0 in let e = mine.2 in omega arith in
    let own_under : Below (kind_of i) (get_or own i 0) n = mine.3 i within in
    let up : Below (kind_of i) n m = below_merged_left (kind_of i) n k in
    let top : Below (kind_of i) n (get_or roof i 0) = kept.under i (let e = kept.roof_long in omega arith) in
    let k_top : Below (kind_of i) k (get_or roof i 0) = rw (← mine.1) fits.1 in
    let w : View = Live s r (set own i (merged (kind_of i) (get_or own i 0) k)) in
    let own_up : Below (kind_of i) (merged (kind_of i) (get_or own i 0) k) m = merged_mono (kind_of i) (get_or own i 0) n k own_under in
    let mine' : Knows (set t.words i m) start roof w =
    (mine.0, mine.1, length-set own i _ ∙ (mine.2 ∙ sym (length-set t.words i m)), both_set own t.words i _ m mine.2 mine.3 within own_up) in (
      w,
      keeps,
      tt,
      inr (
        start,
        roof,
        record {
          start_long = kept.start_long ∙ sym (length-set t.words i m);
          roof_long = kept.roof_long ∙ sym (length-set t.words i m);
          above = above_set start t.words i m kept.above within up;
          under = under_set t.words roof i m kept.under within (merged_least (kind_of i) n k (get_or roof i 0) top k_top);
          known = λ j v e. ⊎_elim
              (λ here. subst (Knows (set t.words i m) start roof) here.1 mine')
              (λ other. knows_set t.words start roof i m v within up (kept.known j v other.1))
              (at_set t.views id j w v e);
        },
      ),
      ((refl, rw mine.0 (kept.above i within), own_under, rw mine.1 top), refl),
    )

-- a raise of any seat that may raise
pub raises : (slots id i k : ℕ) (v : View) (held : List (ℕ × Unit {0})) (q : Kind) → kind_of i ≡ q → Fits i k v
    → Allows Kept slots id (v, held) i (λ n. merged q n k) (Raises (step slots i k 0 none) (v, held))
raises slots id i k (Alone s) held q kind fits = absurd fits
raises slots id i k (Live s r own) held q kind fits =
    subst (λ p. Allows Kept slots id (Live s r own, held) i (λ n. merged p n k) (Raises (step slots i k 0 none) (Live s r own, held))) kind
    (raises_live slots id i k s r own held fits)
raises slots id i k Spent held q kind fits = absurd fits

set_same : (l : List ℕ) (i : ℕ) → set l i (get_or l i 0) ≡ l
set_same [] i = refl
set_same (x ∷ xs) zero = refl
set_same (x ∷ xs) (suc i) = ap (λ t. x ∷ t) (set_same xs i)

looks_live : (slots id i : ℕ) (s r own : List ℕ) (held : List (ℕ × Unit {0})) → IsLive i (Live s r own)
    → Allows Kept slots id (Live s r own, held) i (λ n. n) (Looks (step slots i 0 0 none) (Live s r own, held))
looks_live slots id i s r own held live t (inl alone) _ at _ = absurd (not_alone t.words s r own id (rw (← alone) at))
looks_live slots id i s r own held live t (inr (start, roof, kept)) _ at _ =
    let n : ℕ = get_or t.words i 0 in
    let mine = kept.known id (Live s r own) at in
    let within : i < length t.words = let e = mine.2 in omega arith in (
      Live s r own,
      keeps,
      tt,
      rw (set_same t.words i, set_again t.views id (Live s r own) at) (inr (start, roof, kept)),
      ((refl, rw mine.0 (kept.above i within), mine.3 i within, rw mine.1 (kept.under i (let e = kept.roof_long in omega arith))), refl),
    )

-- a load of any live seat
pub looks : (slots id i : ℕ) (v : View) (held : List (ℕ × Unit {0})) → IsLive i v
    → Allows Kept slots id (v, held) i (λ n. n) (Looks (step slots i 0 0 none) (v, held))
looks slots id i (Alone s) held live = absurd live
looks slots id i (Live s r own) held live = looks_live slots id i s r own held live
looks slots id i Spent held live = absurd live

-- no raises are below any words that fit
pub blank_at : (n : ℕ) (ws : List ℕ) (i : ℕ) → i < length ws → get_or (blank_from n ws) i 0 ≡ least (kind_of (n + i))
blank_at n [] i h = absurd (omega arith)
blank_at n (x ∷ xs) zero h = ap (λ k. least (kind_of k)) (sym (add-zero n))
blank_at n (x ∷ xs) (suc i) h = let e : suc n + i ≡ n + suc i = omega arith in blank_at (suc n) xs i (omega arith) ∙ ap (λ k. least (kind_of k)) e

pub length-blank : (n : ℕ) (ws : List ℕ) → length (blank_from n ws) ≡ length ws
length-blank n [] = refl
length-blank n (x ∷ xs) = ap suc (length-blank (suc n) xs)

pub blank_below : (ws : List ℕ) → ((i : ℕ) → i < length ws → get_or ws i 0 < 18446744073709551616) → AllBelow (blank ws) ws
blank_below ws fits i h = rw (blank_at 0 ws i h, zero-add i) (least_below (kind_of i) (get_or ws i 0) (fits i h))

-- the only seat is the first
the_only : (ws v : List ℕ) (id : ℕ) → get_elem? (Alone ws ∷ []) id ≡ some (Alone v) → (id ≡ 0) × (ws ≡ v)
the_only ws v zero e = let same : Alone ws ≡ Alone v = some-injective _ _ e in (refl, ap alone_list same)
  where
    alone_list : View → List ℕ
    alone_list (Alone s) = s
    alone_list (Live s r o) = s
    alone_list Spent = []
the_only ws v (suc id) e = absurd (some-ne-none _ (sym e))

only_known : (ws r : List ℕ) (x w v : View) (id k : ℕ) → id ≡ 0 → Knows ws ws r w → get_elem? (set (x ∷ []) id w) k ≡ some v → Knows ws ws r v
only_known ws r x w v id zero first known e = let got : some w ≡ some v = rw first at e in subst (Knows ws ws r) (some-injective _ _ got) known
only_known ws r x w v id (suc k) first known e = let got : none ≡ some v = rw first at e in absurd (some-ne-none _ (sym got))

-- the roof is named by the only seat
pub settles : (slots id : ℕ) (ws r : List ℕ) (held : List (ℕ × Unit {0})) → length r ≡ length ws → AllBelow ws r
    → ((i : ℕ) → i < length ws → get_or ws i 0 < 18446744073709551616)
    → Allows Kept slots id (Alone ws, held) 0 (λ n. n) (λ found w. (w.0 ≡ Live ws r (blank ws)) × (w.1 ≡ held))
settles slots id ws r held long below fits t (inl alone) _ at _ =
    let (first, same) = the_only t.words ws id (rw (← alone) at) in
    let w : View = Live ws r (blank ws) in (
      w,
      keeps,
      tt,
      inr (
        ws,
        r,
        rw (set_same t.words 0, same, alone) (record {
          start_long = refl;
          roof_long = long;
          above = λ i h. below_itself (kind_of i) (get_or ws i 0);
          under = λ i h. below i (let e = long in omega arith);
          known = λ k v e. only_known ws r (Alone t.words) w v id k first (refl, refl, length-blank 0 ws, blank_below ws fits) e;
        }),
      ),
      (refl, refl),
    )
settles slots id ws r held long below fits t (inr (start, roof, kept)) _ at _ = absurd (kept.known id (Alone ws) at)

-- a seat is split into two that know the same
pub splits : (id : ℕ) (s r own : List ℕ) → Splits Kept id (Live s r own) (Live s r own) (Live s r own)
splits id s r own t (inl alone) at = absurd (not_alone t.words s r own id (rw (← alone) at))
splits id s r own t (inr (start, roof, kept)) at =
    inr (
      start,
      roof,
      rw (set_again t.views id (Live s r own) at) (record {
        start_long = kept.start_long;
        roof_long = kept.roof_long;
        above = kept.above;
        under = kept.under;
        known = λ k v e. ⊎_elim (λ old. kept.known k v old) (λ same. subst (Knows t.words start roof) same (kept.known id (Live s r own) at)) (at_snoc t.views (Live s r own) v k e);
      }),
    )

-- the raises of both, word by word
pub merge_at : (n : ℕ) (xs ys : List ℕ) (i : ℕ) → i < length xs → get_or (merge_from n xs ys) i 0 ≡ merged (kind_of (n + i)) (get_or xs i 0) (get_or ys (n + i) 0)
merge_at n [] ys i h = absurd (omega arith)
merge_at n (x ∷ xs) ys zero h = ap (λ k. merged (kind_of k) x (get_or ys k 0)) (sym (add-zero n))
merge_at n (x ∷ xs) ys (suc i) h = let e : suc n + i ≡ n + suc i = omega arith in merge_at (suc n) xs ys i (omega arith) ∙ ap (λ k. merged (kind_of k) (get_or xs i 0) (get_or ys k 0)) e

pub length-merge : (n : ℕ) (xs ys : List ℕ) → length (merge_from n xs ys) ≡ length xs
length-merge n [] ys = refl
length-merge n (x ∷ xs) ys = ap suc (length-merge (suc n) xs ys)

pub merge_below : (xs ys w : List ℕ) → length xs ≡ length w → AllBelow xs w → AllBelow ys w → AllBelow (merge_from 0 xs ys) w
merge_below xs ys w long a b i h =
    rw (merge_at 0 xs ys i (omega arith), zero-add i) (merged_least (kind_of i) (get_or xs i 0) (get_or ys i 0) (get_or w i 0) (a i h) (b i h))

pub joins : (id other : ℕ) (s r own s' r' own' : List ℕ) → Joins Kept id (Live s r own) other (Live s' r' own') (both_of (Live s r own) (Live s' r' own')) Spent
joins id other s r own s' r' own' t (inl alone) at _ _ = absurd (not_alone t.words s r own id (rw (← alone) at))
joins id other s r own s' r' own' t (inr (start, roof, kept)) at apart at' =
    let both : View = Live s r (merge_from 0 own own') in
    let mine = kept.known id (Live s r own) at in
    let theirs = kept.known other (Live s' r' own') (sym (set_else t.views id other both apart) ∙ at') in
    let known : Knows t.words start roof both = (mine.0, mine.1, length-merge 0 own own' ∙ mine.2, merge_below own own' t.words mine.2 mine.3 theirs.3) in
    inr (
      start,
      roof,
      record {
        start_long = kept.start_long;
        roof_long = kept.roof_long;
        above = kept.above;
        under = kept.under;
        known = λ k v e. ⊎_elim
            (λ gone. subst (Knows t.words start roof) gone.1 tt)
            (λ left. ⊎_elim (λ here. subst (Knows t.words start roof) here.1 known) (λ old. kept.known k v old.1) (at_set t.views id k both v left.1))
            (at_set (set t.views id both) other k Spent v e);
      },
    )

pub splits_view : (id : ℕ) (v : View) → IsSplitable v → Splits Kept id v v v
splits_view id (Alone s) live = absurd live
splits_view id (Live s r own) live = splits id s r own
splits_view id Spent live = absurd live

pub joins_view : (id other : ℕ) (v w : View) → AreJoinable v w → Joins Kept id v other w (both_of v w) Spent
joins_view id other (Alone s) w live = absurd live
joins_view id other Spent w live = absurd live
joins_view id other (Live s r own) (Alone s') live = absurd live
joins_view id other (Live s r own) (Live s' r' own') live = joins id other s r own s' r' own'
joins_view id other (Live s r own) Spent live = absurd live

settles_play : (slots id : ℕ) (ws r : List ℕ) (held : List (ℕ × Unit {0})) → length r ≡ length ws → AllBelow ws r
    → ((i : ℕ) → i < length ws → get_or ws i 0 < 18446744073709551616)
    → Allows Kept slots id (Alone ws, held) 0 (λ n. n) (λ found w. Settled (Alone ws) r w.0 × (w.1 ≡ held))
settles_play slots id ws r held long below fits = settles slots id ws r held long below fits

pub settles_view : (slots id : ℕ) (v : View) (ws r : List ℕ) (held : List (ℕ × Unit {0})) → v ≡ Alone ws → length r ≡ length ws → AllBelow ws r
    → ((i : ℕ) → i < length ws → get_or ws i 0 < 18446744073709551616)
    → Allows Kept slots id (v, held) 0 (λ n. n) (λ found w. Settled v r w.0 × (w.1 ≡ held))
settles_view slots id v ws r held alone long below fits =
    subst (λ x. Allows Kept slots id (x, held) 0 (λ n. n) (λ found w. Settled x r w.0 × (w.1 ≡ held))) (sym alone) (settles_play slots id ws r held long below fits)

-- what the last state says of the words
pub closes : (ws : List ℕ) (views : List View) (homes : List (mathlib.Core.Option.Option (Unit {0}))) (id : ℕ) (v : View) → Kept (record { words = ws; homes = homes; views = views }) → get_elem? views id ≡ some v → Closes v ws
closes ws views homes id (Alone s) kept at = tt
closes ws views homes id Spent kept at = tt
closes ws views homes id (Live s r own) (inl alone) at = absurd (not_alone ws s r own id (rw (← alone) at))
closes ws views homes id (Live s r own) (inr (start, roof, kept)) at =
    let mine = kept.known id (Live s r own) at in
    (rw mine.0 kept.above, mine.3, rw mine.1 (λ i h. kept.under i h))

pub settled_is : (v w : View) (ws r : List ℕ) → v ≡ Alone ws → Settled v r w → w ≡ Live ws r (blank ws)
settled_is v w ws r alone told = let P : View → Type 0 = λ x. Settled x r w in subst P alone told

-- two lists with the same elements
pub same_words : (xs ys : List ℕ) → length xs ≡ length ys → ((j : ℕ) → j < length xs → get_elem? xs j ≡ some (get_or ys j 0)) → xs ≡ ys
same_words [] [] long all = refl
same_words [] (y ∷ ys) long all = absurd (omega arith)
same_words (x ∷ xs) [] long all = absurd (omega arith)
same_words (x ∷ xs) (y ∷ ys) long all =
    let first : some x ≡ some y = all zero (omega arith) in
    let rest = same_words xs ys (omega arith) (λ j h. all (suc j) (omega arith)) in
    λ i. some-injective x y first i ∷ rest i
