-- A row is raised word by word.
use Rattle.std.proofs.Common.{◌≡◌, ◌≢◌, ℕ, suc, ◌+◌, ◌<◌, ◌≤◌, List, [], ◌∷◌, ◌++◌, length, take, get_or, set, sym, refl, ap, ◌∙◌, subst, arith, length-set, get_or-set_same, get_or-set_other}
use Rattle.std.proofs.lemmas.List.{take_more, length-take-le}
use mathlib.Core.Logic.{dite}
use native.Mathlib.Decide.{ℕ_discrete}
use Rattle.flow_board.specs.Order.{kind_of, Below, merged}
use Rattle.flow_board.specs.Rule.{Fits, Told, IsLive, Looked}
use Rattle.flow_board.specs.WordSteps.{raised_from, FitsRow, ToldRow, LooksRow, LookedRow}
use Rattle.flow_board.specs.declared.view.View.{View}
use Rattle.flow_board.specs.declared.view.View.TheVariants.{Alone, Live, Spent}

pub length-raised : (i : ℕ) (row own : List ℕ) → length (raised_from i row own) ≡ length own
length-raised i [] own = refl
length-raised i (x ∷ xs) own = length-raised (suc i) xs (set own i (merged (kind_of i) (get_or own i 0) x)) ∙ length-set own i _

-- the words past those raised are as before
pub raised_past : (i : ℕ) (row own : List ℕ) (k : ℕ) → i + length row ≤ k → get_or (raised_from i row own) k 0 ≡ get_or own k 0
raised_past i [] own k past = refl
raised_past i (x ∷ xs) own k past =
    let other : k ≢ i = λ e. omega arith in
    raised_past (suc i) xs (set own i (merged (kind_of i) (get_or own i 0) x)) k (omega arith) ∙ get_or-set_other own i k _ 0 other

-- one word more at the end
pub raised_more : (i : ℕ) (row own : List ℕ) (x n : ℕ) → n ≡ i + length row
    → raised_from i (row ++ x ∷ []) own ≡ set (raised_from i row own) n (merged (kind_of n) (get_or (raised_from i row own) n 0) x)
raised_more i [] own x n e =
    let here : n ≡ i = omega arith in rw here refl
raised_more i (y ∷ ys) own x n e = raised_more (suc i) ys (set own i (merged (kind_of i) (get_or own i 0) y)) x n (omega arith)

-- the next word may be raised
pub fits_more : (i : ℕ) (row old : List ℕ) (j n : ℕ) (v w : View) → n ≡ i + j → j < length row → FitsRow i row v → ToldRow i (take j row) v old w → Fits n (get_or row j 0) w
fits_more i row old j n (Alone s) w e within fits told = absurd fits
fits_more i row old j n Spent w e within fits told = absurd fits
fits_more i row old j n (Live s r own) w e within fits told =
    let long = length-raised i (take j row) own in
    let P : View → Type 0 = λ x. Fits n (get_or row j 0) x in
    subst P (sym told.0) (let room = fits.0 in omega (arith, long), subst (λ m. Below (kind_of m) (get_or row j 0) (get_or r m 0)) (sym e) (fits.1 j within))

told_live : (i j : ℕ) (row old s r own : List ℕ) (found : ℕ) (w w' : View) → j < length row → j < length old
    → ToldRow i (take j row) (Live s r own) old w → Told (i + j) (get_or row j 0) w found w' → ToldRow i (take (j + 1) row) (Live s r own) (set old j found) w'
told_live i j row old s r own found w w' within room told step =
    let x : ℕ = get_or row j 0 in
    let R : List ℕ = raised_from i (take j row) own in
    let size : length (take j row) ≡ j = length-take-le j row (omega arith) in
    let grown : take (j + 1) row ≡ take j row ++ x ∷ [] = take_more row j 0 within in
    let size' : length (take (j + 1) row) ≡ j + 1 = length-take-le (j + 1) row (omega arith) in
    let P : View → Type 0 = λ y. Told (i + j) x y found w' in
    let st = subst P told.0 step in
    let same : get_or R (i + j) 0 ≡ get_or own (i + j) 0 = raised_past i (take j row) own (i + j) (omega (arith, size)) in
    let end : i + j ≡ i + length (take j row) = omega (arith, size) in
    let Q : ℕ → Type 0 = λ k. Below (kind_of (i + k)) (get_or s (i + k) 0) (get_or (set old j found) k 0)
    × Below (kind_of (i + k)) (get_or own (i + k) 0) (get_or (set old j found) k 0)
    × Below (kind_of (i + k)) (get_or (set old j found) k 0) (get_or r (i + k) 0) in
    let here : Q j = rw (get_or-set_same old j found 0 room) (st.1, rw (← same) st.2, st.3) in (
      rw grown (st.0 ∙ ap (Live s r) (sym (raised_more i (take j row) own x (i + j) end))),
      λ k h. dite (ℕ_discrete k j)
          (λ e. subst Q (sym e) here)
          (λ other. let before : k < length (take j row) = omega (arith, size, size') in rw (get_or-set_other old j k found 0 other) (told.1 k before)),
    )

-- one word more was raised
pub told_more : (i j : ℕ) (row old : List ℕ) (found : ℕ) (v w w' : View) → j < length row → j < length old
    → ToldRow i (take j row) v old w → Told (i + j) (get_or row j 0) w found w' → ToldRow i (take (j + 1) row) v (set old j found) w'
told_more i j row old found (Alone s) w w' within room told step = tt
told_more i j row old found Spent w w' within room told step = tt
told_more i j row old found (Live s r own) w w' within room told step = told_live i j row old s r own found w w' within room told step

-- the next word may be read
pub looks_more : (i n j : ℕ) (found : List ℕ) (v w : View) → j < n → LooksRow i n v → LookedRow i j v found w → IsLive (i + j) w
looks_more i n j found (Alone s) w h fits told = absurd fits
looks_more i n j found Spent w h fits told = absurd fits
looks_more i n j found (Live s r own) w h fits told =
    let P : View → Type 0 = λ x. IsLive (i + j) x in
    subst P (sym told.0) (omega arith)

-- one word more was read
pub looked_more : (i j : ℕ) (found : List ℕ) (x : ℕ) (v w w' : View) → j < length found → LookedRow i j v found w → Looked (i + j) w x w' → LookedRow i (j + 1) v (set found j x) w'
looked_more i j found x (Alone s) w w' room told step = tt
looked_more i j found x Spent w w' room told step = tt
looked_more i j found x (Live s r own) w w' room told step =
    let P : View → Type 0 = λ y. Looked (i + j) y x w' in
    let st = subst P told.0 step in
    let Q : ℕ → Type 0 = λ k. Below (kind_of (i + k)) (get_or s (i + k) 0) (get_or (set found j x) k 0)
    × Below (kind_of (i + k)) (get_or own (i + k) 0) (get_or (set found j x) k 0)
    × Below (kind_of (i + k)) (get_or (set found j x) k 0) (get_or r (i + k) 0) in
    let here : Q j = rw (get_or-set_same found j x 0 room) (st.1, st.2, st.3) in (
      st.0,
      λ k h. dite (ℕ_discrete k j)
          (λ e. subst Q (sym e) here)
          (λ other. let before : k < j = omega arith in rw (get_or-set_other found j k x 0 other) (told.1 k before)),
    )
