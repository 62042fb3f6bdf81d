-- What one route and its exact row say of each other, and the route that an inhabited row has.
use Rattle.std.proofs.Common.{ℕ, ◌≡◌, ◌≢◌, ◌<◌, ◌≤◌, ◌==◌, ◌-◌, ◌+◌, ◌^◌, ◌&&◌, ◌||◌, ◌⊎◌, inl, inr, Bool, true, false, not, List, [], ◌++◌, length, length-append, replicate, arith, ap, sym, subst, ◌∙◌, refl, zero, suc, ◌↔◌, cond, ◌∷◌}
use Rattle.std.specs.List.{filter, range_with_len}
use Rattle.std.proofs.lemmas.Bool.Decides.{nat_tests}
use Rattle.std.proofs.lemmas.List.{length-replicate}
use Rattle.std.proofs.lemmas.List.Folds.{list_any-append}
use Rattle.std.proofs.lemmas.Map.Views.{any-filter_same}
use Rattle.std.proofs.lemmas.Nat.Bits.{bit_at_above}
use Rattle.net_types.specs.Routes.{is_on, sent_med}
use Rattle.net_types.specs.declared.config.Origin.{Origin}
use Rattle.net_types.specs.declared.config.Origin.TheVariants.{Igp, Egp, Incomplete}
use Rattle.net_types.specs.declared.arcs.Arc.{Arc}
use Rattle.net_types.specs.declared.routes.Route.{Route}
use Rattle.net_types.specs.declared.routes.Source.TheVariants.{Local, Learned}
use Rattle.net_types.specs.Better.{origin_rank}
use Rattle.net_types.specs.Sets.{has}
use Rattle.net_types.proofs.SetLemmas.{bit_from}
use Rattle.abstract_route.specs.declared.rows.Row.{Row}
use Rattle.abstract_route.specs.Rows.{IsInhabited, IsRow, carried_row}
use Rattle.abstract_route.specs.Fits.{Fits, IsIn, exact_row}
use Rattle.abstract_route.specs.OneRoute.{HasRoom, IsLike, members}
use Rattle.abstract_route.proofs.RowLemmas.{part_refl, part_anti}
use Rattle.abstract_route.proofs.FitLemmas.{exact_is_least, fits_inhabited, has-routers_of, has_others}

-- ---- no other route fits the exact row

same_origin : (o p : Origin) → origin_rank o ≡ origin_rank p → o ≡ p
same_origin Igp Igp e = refl
same_origin Igp Egp e = absurd (cc)
same_origin Igp Incomplete e = absurd (cc)
same_origin Egp Igp e = absurd (cc)
same_origin Egp Egp e = refl
same_origin Egp Incomplete e = absurd (cc)
same_origin Incomplete Igp e = absurd (cc)
same_origin Incomplete Egp e = absurd (cc)
same_origin Incomplete Incomplete e = refl

both_ways : (p q : Bool) → (p ≡ true → q ≡ true) → (q ≡ true → p ≡ true) → p ≡ q
both_ways true true f g = refl
both_ways true false f g = sym (f refl)
both_ways false true f g = g refl
both_ways false false f g = refl

member_below : (set x : ℕ) → set < 2 ^ 64 → has set x ≡ true → x < 64
member_below set x small h = elim (cases x) [
  | inl low ↦ low
  | inr high ↦ absurd (let e = bit_from set x h in let f = bit_at_above set 64 x small high in omega arith)
] where
  cases : (x : ℕ) → (x < 64) ⊎ (64 ≤ x)
  cases x = grind arith

pub exact_fits_one : (route other : Route) → route.communities < 2 ^ 64 → Fits other (exact_row route) → IsLike other route
exact_fits_one t o small f = record {
  weight = (let p = f.weight in omega arith);
  preference = (let p = f.preference in omega arith);
  length = (let p = f.length in omega arith);
  origin = same_origin o.origin t.origin (let p = f.origin in omega arith);
  med = (let p = f.med in omega arith);
  communities = part_anti o.communities t.communities f.held
      (record {
        members = λ x h. let low = member_below t.communities x small h in
            kept (has o.communities x) (has t.communities x) h (λ off. sym (has_others t.communities x small low) ∙ f.lacked x low off);
      });
  routers = λ x. both_ways (is_on x o.path) (is_on x t.path)
      (λ on. sym (has-routers_of t.path x) ∙ f.may x on)
      (λ on. f.must x (has-routers_of t.path x ∙ on));
} where
  kept : (p q : Bool) → q ≡ true → (p ≡ false → not q ≡ true) → p ≡ true
  kept true q e f = refl
  kept false true e f = f refl
  kept false false e f = e

-- ---- the route in its row, with the MED that an export carries

pub local_is_in : (route : Route) → route.communities < 2 ^ 64 → route.source ≡ Local → IsIn route (exact_row route)
local_is_in t small e = subst (λ n. Fits (record t { med = n }) (exact_row t)) (sym (ap (λ s. sent_med s t.med) e)) (exact_is_least t small).fits

pub learned_is_in : (route : Route) (arc : Arc) → route.communities < 2 ^ 64 → route.source ≡ Learned arc → IsIn route (carried_row (exact_row route))
learned_is_in t arc small e = subst (λ n. Fits (record t { med = n }) (carried_row (exact_row t))) (sym (ap (λ s. sent_med s t.med) e))
    (exact_is_least (record t { med = 0 }) small).fits

-- ---- the route of an inhabited row

on_append : (x : ℕ) (path more : List ℕ) → is_on x (path ++ more) ≡ (is_on x path || is_on x more)
on_append x path more = list_any-append (λ y. x == y) path more

in_range : (a n x : ℕ) → a ≤ x → x < a + n → is_on x (range_with_len a n) ≡ true
in_range a zero x p q = absurd (omega arith)
in_range a (suc n) x p q = elim (cases a x) [
  | inl same ↦ here (x == a) (is_on x (range_with_len (a + 1) n)) (grind (arith, nat_tests))
  | inr other ↦ there (x == a) (is_on x (range_with_len (a + 1) n)) (in_range (a + 1) n x (omega arith) (omega arith))
] where
  cases : (a x : ℕ) → (x ≡ a) ⊎ (x ≢ a)
  cases a x = grind arith

  here : (p q : Bool) → p ≡ true → (p || q) ≡ true
  here p q e = rw e refl

  there : (p q : Bool) → q ≡ true → (p || q) ≡ true
  there true q e = refl
  there false q e = e

on_members : (set x : ℕ) → is_on x (members set) ≡ (has set x && is_on x (range_with_len 0 64))
on_members set x = any-filter_same (λ y. x == y) (λ y. has set y) (has set x) (λ y e. ap (λ n. has set n) (grind (arith, nat_tests))) (range_with_len 0 64)

member_on : (set x : ℕ) → set < 2 ^ 64 → has set x ≡ true → is_on x (members set) ≡ true
member_on set x small h =
    on_members set x ∙ and_true (has set x) (is_on x (range_with_len 0 64)) h (in_range 0 64 x (omega arith) (member_below set x small h)) where
      and_true : (p q : Bool) → p ≡ true → q ≡ true → (p && q) ≡ true
      and_true p q e f = rw (e, f) refl

on_member : (set x : ℕ) → is_on x (members set) ≡ true → has set x ≡ true
on_member set x on = left (has set x) (is_on x (range_with_len 0 64)) (sym (on_members set x) ∙ on) where
  left : (p q : Bool) → (p && q) ≡ true → p ≡ true
  left true q e = refl
  left false q e = absurd (cc)

on_copies : (x y n : ℕ) → is_on x (replicate n y) ≡ true → x ≡ y
on_copies x y zero on = absurd (cc)
on_copies x y (suc n) on = first (x == y) (is_on x (replicate n y)) (λ e. grind (arith, nat_tests)) (on_copies x y n) on where
  first : (p q : Bool) → (p ≡ true → x ≡ y) → (q ≡ true → x ≡ y) → (p || q) ≡ true → x ≡ y
  first true q f g e = f refl
  first false q f g e = g e

-- a path of as many entries as the row asks for, with the routers that are on every path and none that may not be
record IsPathOf (row : Row) (path : List ℕ) : Type 0 where
  least : row.length.low ≤ length path
  greatest : length path ≤ row.length.high
  may : (x : ℕ) → is_on x path ≡ true → has row.may x ≡ true
  must : (x : ℕ) → has row.must x ≡ true → is_on x path ≡ true

either : (p q : Bool) (P : Type 0) → (p ≡ true → P) → (q ≡ true → P) → (p || q) ≡ true → P
either true q P f g e = f refl
either false q P f g e = g e

has_path : (row : Row) → IsRow row → IsInhabited row → HasRoom row → (path : List ℕ) × IsPathOf row path
has_path row words h room = go room.some where
  go : ((row.length.low ≡ 0) ⊎ ((x : ℕ) × (has row.may x ≡ true))) → (path : List ℕ) × IsPathOf row path
  go (inl none) = (
    members row.must,
    record {
      least = omega arith;
      greatest = room.few;
      may = λ x on. h.routers.members x (on_member row.must x on);
      must = λ x m. member_on row.must x words.sets.3 m;
    },
  )
  go (inr (y, filler)) = (
    members row.must ++ replicate (row.length.low - length (members row.must)) y,
    record {
      least = (let e = length-append (members row.must) (replicate (row.length.low - length (members row.must)) y) in
          let f = length-replicate (row.length.low - length (members row.must)) y in omega arith);
      greatest = (let e = length-append (members row.must) (replicate (row.length.low - length (members row.must)) y) in
          let f = length-replicate (row.length.low - length (members row.must)) y in let g = room.few in let k = h.length in omega arith);
      may = λ x on. either (is_on x (members row.must)) (is_on x (replicate (row.length.low - length (members row.must)) y)) (has row.may x ≡ true)
          (λ m. h.routers.members x (on_member row.must x m))
          (λ c. ap (λ n. has row.may n) (on_copies x y (row.length.low - length (members row.must)) c) ∙ filler)
          (sym (on_append x (members row.must) (replicate (row.length.low - length (members row.must)) y)) ∙ on);
      must = λ x m. on_append x (members row.must) (replicate (row.length.low - length (members row.must)) y) ∙
          ap (λ (b : Bool). b || is_on x (replicate (row.length.low - length (members row.must)) y)) (member_on row.must x words.sets.3 m);
    },
  )

origin_at : (n : ℕ) → n ≤ 2 → (o : Origin) × (origin_rank o ≡ n)
origin_at zero h = (Igp, refl)
origin_at (suc zero) h = (Egp, refl)
origin_at (suc (suc zero)) h = (Incomplete, refl)
origin_at (suc (suc (suc n))) h = absurd (omega arith)

or_right : (p q : Bool) → (p || q) ≡ true → p ≡ false → q ≡ true
or_right true q e f = absurd (cc)
or_right false q e f = e

inhabited_has_route : (row : Row) → IsRow row → IsInhabited row → row.origin.low ≤ 2 → HasRoom row → (route : Route) × Fits route row
inhabited_has_route row words h low room =
    let p = has_path row words h room in let o = origin_at row.origin.low low in (
      record { weight = row.weight.low; preference = row.preference.low; path = p.0; origin = o.0; med = row.med.low; communities = row.has; source = Local },
      record {
        weight = (omega arith, h.weight);
        preference = (omega arith, h.preference);
        length = (p.1.least, p.1.greatest);
        origin = (let e = o.1 in omega arith, let e = o.1 in let f = h.origin in omega arith);
        med = (omega arith, h.med);
        held = part_refl row.has;
        lacked = λ x below off. or_right (has row.has x) (has row.lacks x) (h.communities x below) off;
        may = p.1.may;
        must = p.1.must;
      },
    )

-- ---- a row that a route fits has room for its path

abbrev one : Bool → ℕ
one true = 1
one false = 0

-- how many numbers of the list pass the test
abbrev many : (ℕ → Bool) → List ℕ → ℕ
many p [] = 0
many p (x ∷ xs) = one (p x) + many p xs

length_filter : (p : ℕ → Bool) (xs : List ℕ) → length (filter p xs) ≡ many p xs
length_filter p [] = refl
length_filter p (x ∷ xs) = step (p x) (filter p xs) (many p xs) (length_filter p xs) where
  step : (b : Bool) (kept : List ℕ) (n : ℕ) → length kept ≡ n → length (cond b (x ∷ kept) kept) ≡ one b + n
  step true kept n e = omega arith
  step false kept n e = omega arith

one_or : (p q : Bool) → one (p || q) ≤ one p + one q
one_or true true = omega arith
one_or true false = omega arith
one_or false true = omega arith
one_or false false = omega arith

one_up : (p q : Bool) → (p ≡ true → q ≡ true) → one p ≤ one q
one_up true true f = omega arith
one_up true false f = absurd (let e = f refl in cc)
one_up false true f = omega arith
one_up false false f = omega arith

count_or : (p q : ℕ → Bool) (xs : List ℕ) → many (λ x. p x || q x) xs ≤ many p xs + many q xs
count_or p q [] = omega arith
count_or p q (x ∷ xs) = let e = one_or (p x) (q x) in let f = count_or p q xs in omega arith

count_up : (p q : ℕ → Bool) (xs : List ℕ) → ((x : ℕ) → p x ≡ true → q x ≡ true) → many p xs ≤ many q xs
count_up p q [] h = omega arith
count_up p q (x ∷ xs) h = let e = one_up (p x) (q x) (h x) in let f = count_up p q xs h in omega arith

count_none : (y a n : ℕ) → y < a → many (λ x. x == y) (range_with_len a n) ≡ 0
count_none y a zero h = refl
count_none y a (suc n) h = let e = count_none y (a + 1) n (omega arith) in let f = off (a == y) (grind (arith, nat_tests)) in omega arith where
  off : (b : Bool) → b ≡ false → one b ≡ 0
  off b e = rw e refl

count_once : (y a n : ℕ) → many (λ x. x == y) (range_with_len a n) ≤ 1
count_once y a zero = omega arith
count_once y a (suc n) = elim (cases a y) [
  | inl same ↦ let e = count_none y (a + 1) n (omega arith) in let f = most (a == y) in omega arith
  | inr other ↦ let e = count_once y (a + 1) n in let f = off (a == y) (grind (arith, nat_tests)) in omega arith
] where
  cases : (a y : ℕ) → (a ≡ y) ⊎ (a ≢ y)
  cases a y = grind arith

  most : (b : Bool) → one b ≤ 1
  most true = omega arith
  most false = omega arith

  off : (b : Bool) → b ≡ false → one b ≡ 0
  off b e = rw e refl

count_on : (path : List ℕ) → many (λ x. is_on x path) (range_with_len 0 64) ≤ length path
count_on [] = let e = none (range_with_len 0 64) in omega arith where
  none : (xs : List ℕ) → many (λ x. is_on x []) xs ≡ 0
  none [] = refl
  none (x ∷ xs) = let e = none xs in omega arith
count_on (y ∷ path) =
    let e = count_or (λ x. x == y) (λ x. is_on x path) (range_with_len 0 64) in
    let f = count_once y 0 64 in let g = count_on path in omega arith

or_left : (p q : Bool) → p ≡ true → (p || q) ≡ true
or_left p q e = rw e refl

has_room : (route : Route) (row : Row) → Fits route row → HasRoom row
has_room t row f = record {
  few = (let e = length_filter (λ x. has row.must x) (range_with_len 0 64) in
      let g = count_up (λ x. has row.must x) (λ x. is_on x t.path) (range_with_len 0 64) f.must in
      let h = count_on t.path in let l = f.length in omega arith);
  some = filled t.path f.length.0 f.may;
} where
  filled : (path : List ℕ) → row.length.low ≤ length path → ((x : ℕ) → is_on x path ≡ true → has row.may x ≡ true) →
      (row.length.low ≡ 0) ⊎ ((x : ℕ) × (has row.may x ≡ true))
  filled [] low may = inl (omega arith)
  filled (y ∷ path) low may = inr (y, may y (or_left (y == y) (is_on y path) (grind (arith, nat_tests))))

pub has_route : (row : Row) → IsRow row → ((route : Route) × Fits route row) ↔ (IsInhabited row × (row.origin.low ≤ 2) × HasRoom row)
has_route row words = (
  (λ r. (fits_inhabited r.0 row r.1, least_origin r.0.origin r.1.origin.0, has_room r.0 row r.1)),
  (λ h. inhabited_has_route row words h.0 h.1 h.2),
) where
  least_origin : (o : Origin) → row.origin.low ≤ origin_rank o → row.origin.low ≤ 2
  least_origin Igp h = omega arith
  least_origin Egp h = omega arith
  least_origin Incomplete h = omega arith
