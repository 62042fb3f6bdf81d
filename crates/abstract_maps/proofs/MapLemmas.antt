-- Maps on a row against maps on a route: what a map gives fits, rows grow together, a map that is sure gives something,
-- and on the row of one route a map makes the row of what it gives.
use Rattle.std.proofs.Common.{ℕ, ◌≡◌, ◌<◌, ◌^◌, ◌⊎◌, inl, inr, Bool, true, false, List, [], ◌∷◌, length, Option, Some, None, All, slice_get, arith, ap, sym, subst, ◌∙◌, refl, cond}
use Rattle.std.proofs.lemmas.List.Elements.{All-head, All-tail}
use Rattle.std.proofs.lemmas.Option.{slice_get_cases}
use Rattle.net_types.specs.Routes.{is_on}
use Rattle.net_types.specs.declared.network.NetMapEntry.{NetMapEntry}
use Rattle.net_types.specs.declared.network.Policy.{Policy}
use Rattle.net_types.specs.declared.network.Policy.TheVariants.{Closed, Open, Map}
use Rattle.net_types.specs.declared.network.Router.{Router}
use Rattle.net_types.specs.declared.routes.Route.{Route}
use Rattle.net_types.specs.NetFacts.{IsNet, IsNetMapEntry, IsRouter}
use Rattle.net_types.specs.NetValue.{NetValue}
use Rattle.net_types.specs.PrefixValue.{PrefixValue}
use Rattle.abstract_route.specs.declared.rows.Row.{Row}
use Rattle.abstract_route.specs.Rows.{IsBelow, IsInhabited, bottom, inhabited, joined}
use Rattle.abstract_route.specs.Fits.{Fits, exact_row}
use Rattle.abstract_route.proofs.FitLemmas.{exact_is_least, fits_below, fits_inhabited, inhabited_is, inhabited_up}
use Rattle.abstract_route.proofs.RowLemmas.{below_refl, below_trans, join_left, join_least, join_right}
use Rattle.concrete_algebra.specs.Maps.{entries_give, entry_gives, entry_matches, map_entries, map_gives, under_sets}
use Rattle.abstract_maps.specs.declared.statuses.Status.{Status}
use Rattle.abstract_maps.specs.declared.statuses.Status.TheVariants.{No, Maybe, Yes}
use Rattle.abstract_maps.specs.AbstractMap.{abstract_map, by_entry, entry_row, map_row, policy_row, sure, sure_by, sure_entries, sure_policy}
use Rattle.abstract_maps.specs.LocalRow.{exact_or_bottom}
use Rattle.abstract_maps.specs.RowSets.{row_under_sets}
use Rattle.abstract_maps.specs.Statuses.{certain_status, entry_status}
use Rattle.abstract_maps.proofs.SetWords.{bool_cases, all_at, entries_at}
use Rattle.abstract_maps.proofs.StatusLemmas.{Grows, Tells, entry_grows, entry_sharp, entry_tells}
use Rattle.abstract_maps.proofs.RowSetLemmas.{sets_exact, sets_fit, sets_grow, sets_inhabited, front_cases}
use Rattle.abstract_maps.proofs.WordLemmas.{HasWords, bottom_words, map_words}

pub some_same : (a b : Route) → Some a ≡ Some b → a ≡ b
some_same a b h = cc

-- ---- one entry and what comes behind it

by_entry_grows : (s t : Status) (a b c d : Row) → Grows s t → IsBelow a b → IsBelow c d → IsBelow (by_entry s a c) (by_entry t b d)
by_entry_grows No No a b c d g p q = q
by_entry_grows No Maybe a b c d g p q = below_trans c d (joined b d) q (join_right b d)
by_entry_grows No Yes a b c d g p q = absurd g
by_entry_grows Maybe No a b c d g p q = absurd g
by_entry_grows Maybe Maybe a b c d g p q = join_least a c (joined b d) (below_trans a b (joined b d) p (join_left b d)) (below_trans c d (joined b d) q (join_right b d))
by_entry_grows Maybe Yes a b c d g p q = absurd g
by_entry_grows Yes No a b c d g p q = absurd g
by_entry_grows Yes Maybe a b c d g p q = below_trans a b (joined b d) p (join_left b d)
by_entry_grows Yes Yes a b c d g p q = p

by_entry_fits : (t : Route) (s : Status) (matches : Bool) (a c : Row) → Tells s matches → (matches ≡ true → Fits t a) → (matches ≡ false → Fits t c) → Fits t (by_entry s a c)
by_entry_fits t No matches a c tells here later = later tells
by_entry_fits t Yes matches a c tells here later = here tells
by_entry_fits t Maybe true a c tells here later = fits_below t a (joined a c) (join_left a c) (here refl)
by_entry_fits t Maybe false a c tells here later = fits_below t c (joined a c) (join_right a c) (later refl)

-- ---- the entries of a map

pub entries_sound : (count : ℕ) (router : Router) (u : ℕ) (prefix : PrefixValue) (es : List NetMapEntry) (t r : Route) (row : Row) → IsRouter count router → All (IsNetMapEntry count router) es → Fits t row → entries_give router u prefix es t ≡ Some r → Fits r (map_row router u prefix es row)
unfolding map_row entries_give
entries_sound count router u prefix [] t r row ok all fits gives = absurd (cc)
entries_sound count router u prefix (e ∷ es) t r row ok all fits gives =
    by_entry_fits r (entry_status router prefix e row) (entry_matches router prefix e t.communities) (entry_row router u e row) (map_row router u prefix es row)
    (entry_tells count router prefix e t row ok fits)
    (λ on. here e.permit refl (let g : cond (entry_matches router prefix e t.communities) (entry_gives router u e t) (entries_give router u prefix es t) ≡ Some r = gives in rw on at g))
    (λ off. entries_sound count router u prefix es t r row ok (All-tail (IsNetMapEntry count router) e es all) fits
    (let g : cond (entry_matches router prefix e t.communities) (entry_gives router u e t) (entries_give router u prefix es t) ≡ Some r = gives in rw off at g)) where
      here : (p : Bool) → e.permit ≡ p → cond e.permit (Some (under_sets router u e.sets t)) None ≡ Some r → Fits r (cond e.permit (row_under_sets router u e.sets row) bottom)
      here true is g = rw is (subst (λ (x : Route). Fits x (row_under_sets router u e.sets row))
          (some_same (under_sets router u e.sets t) r (let h : cond e.permit (Some (under_sets router u e.sets t)) None ≡ Some r = g in rw is at h))
          (sets_fit count (length router.community_lists) router u e.sets t row ok (All-head (IsNetMapEntry count router) e es all).sets fits))
      here false is g = absurd (let h : cond e.permit (Some (under_sets router u e.sets t)) None ≡ Some r = g in let k = rw is at h in cc)

pub entries_grow : (count : ℕ) (router : Router) (u : ℕ) (prefix : PrefixValue) (es : List NetMapEntry) (a b : Row) → IsRouter count router → IsInhabited a → IsBelow a b → IsBelow (map_row router u prefix es a) (map_row router u prefix es b)
unfolding map_row
entries_grow count router u prefix [] a b ok i l = below_refl bottom
entries_grow count router u prefix (e ∷ es) a b ok i l =
    by_entry_grows (entry_status router prefix e a) (entry_status router prefix e b) (entry_row router u e a) (entry_row router u e b)
    (map_row router u prefix es a) (map_row router u prefix es b)
    (entry_grows count router prefix e a b ok i l) (here e.permit) (entries_grow count router u prefix es a b ok i l) where
      here : (permit : Bool) → IsBelow (cond permit (row_under_sets router u e.sets a) bottom) (cond permit (row_under_sets router u e.sets b) bottom)
      here true = sets_grow router u e.sets a b l
      here false = below_refl bottom

-- a map leaves no route, or an inhabited row
entries_either : (count : ℕ) (router : Router) (u : ℕ) (prefix : PrefixValue) (es : List NetMapEntry) (row : Row) → IsRouter count router → All (IsNetMapEntry count router) es → IsInhabited row → (map_row router u prefix es row ≡ bottom) ⊎ IsInhabited (map_row router u prefix es row)
unfolding map_row
entries_either count router u prefix [] row ok all i = inl refl
entries_either count router u prefix (e ∷ es) row ok all i =
    step (entry_status router prefix e row) (entry_row router u e row) (map_row router u prefix es row) (here e.permit)
    (entries_either count router u prefix es row ok (All-tail (IsNetMapEntry count router) e es all) i) where
      here : (permit : Bool) → (cond permit (row_under_sets router u e.sets row) bottom ≡ bottom) ⊎ IsInhabited (cond permit (row_under_sets router u e.sets row) bottom)
      here true = inr (sets_inhabited count (length router.community_lists) router u e.sets row ok (All-head (IsNetMapEntry count router) e es all).sets i)
      here false = inl refl

      step : (st : Status) (a b : Row) → (a ≡ bottom) ⊎ IsInhabited a → (b ≡ bottom) ⊎ IsInhabited b → (by_entry st a b ≡ bottom) ⊎ IsInhabited (by_entry st a b)
      step No a b p q = q
      step Yes a b p q = p
      step Maybe a b (inr p) q = inr (inhabited_up a (joined a b) (join_left a b) p)
      step Maybe a b (inl p) (inr q) = inr (inhabited_up b (joined a b) (join_right a b) q)
      step Maybe a b (inl p) (inl q) = inl (ap (λ (x : Row). joined x b) p ∙ ap (λ (x : Row). joined bottom x) q)

-- a map that is sure of an inhabited row leaves routes of it
entries_sure : (count : ℕ) (router : Router) (u : ℕ) (prefix : PrefixValue) (es : List NetMapEntry) (row : Row) → IsRouter count router → All (IsNetMapEntry count router) es → IsInhabited row → sure_entries router prefix es row ≡ true → IsInhabited (map_row router u prefix es row)
unfolding map_row sure_entries
entries_sure count router u prefix [] row ok all i s = absurd (cc)
entries_sure count router u prefix (e ∷ es) row ok all i s =
    step (entry_status router prefix e row) e.permit (sure_entries router prefix es row) s
    (entries_sure count router u prefix es row ok (All-tail (IsNetMapEntry count router) e es all) i) where
      under : IsInhabited (row_under_sets router u e.sets row)
      under = sets_inhabited count (length router.community_lists) router u e.sets row ok (All-head (IsNetMapEntry count router) e es all).sets i

      step : (st : Status) (permit later : Bool) → sure_by st permit later ≡ true → (later ≡ true → IsInhabited (map_row router u prefix es row)) →
          IsInhabited (by_entry st (cond permit (row_under_sets router u e.sets row) bottom) (map_row router u prefix es row))
      step No permit later s behind = behind s
      step Yes true later s behind = under
      step Yes false later s behind = absurd (cc)
      step Maybe true later s behind = inhabited_up (row_under_sets router u e.sets row) (joined (row_under_sets router u e.sets row) (map_row router u prefix es row)) (join_left (row_under_sets router u e.sets row) (map_row router u prefix es row)) under
      step Maybe false later s behind = absurd (cc)

-- ... and gives something of each route that fits it
entries_surely_give : (count : ℕ) (router : Router) (u : ℕ) (prefix : PrefixValue) (es : List NetMapEntry) (t : Route) (row : Row) → IsRouter count router → Fits t row → sure_entries router prefix es row ≡ true → (r : Route) × (entries_give router u prefix es t ≡ Some r)
unfolding sure_entries entries_give
entries_surely_give count router u prefix [] t row ok fits s = absurd (cc)
entries_surely_give count router u prefix (e ∷ es) t row ok fits s =
    step (entry_status router prefix e row) (entry_matches router prefix e t.communities) e.permit (sure_entries router prefix es row)
    (entry_tells count router prefix e t row ok fits) s (entries_surely_give count router u prefix es t row ok fits) where
      step : (st : Status) (matches permit later : Bool) → Tells st matches → sure_by st permit later ≡ true →
          (later ≡ true → (r : Route) × (entries_give router u prefix es t ≡ Some r)) →
          (r : Route) × (cond matches (cond permit (Some (under_sets router u e.sets t)) None) (entries_give router u prefix es t) ≡ Some r)
      step No true permit later tells s behind = absurd (cc)
      step No false permit later tells s behind = behind s
      step Yes true true later tells s behind = (under_sets router u e.sets t, refl)
      step Yes true false later tells s behind = absurd (cc)
      step Yes false permit later tells s behind = absurd (cc)
      step Maybe true true later tells s behind = (under_sets router u e.sets t, refl)
      step Maybe true false later tells s behind = absurd (cc)
      step Maybe false true later tells s behind = behind s
      step Maybe false false later tells s behind = absurd (cc)

entries_exact : (count : ℕ) (router : Router) (u : ℕ) (prefix : PrefixValue) (es : List NetMapEntry) (t : Route) → IsRouter count router → All (IsNetMapEntry count router) es → t.communities < 2 ^ 64 → map_row router u prefix es (exact_row t) ≡ exact_or_bottom (entries_give router u prefix es t)
unfolding map_row entries_give
entries_exact count router u prefix [] t ok all small = refl
entries_exact count router u prefix (e ∷ es) t ok all small =
    ap (λ (s : Status). by_entry s (entry_row router u e (exact_row t)) (map_row router u prefix es (exact_row t))) (entry_sharp count router prefix e t ok small) ∙
    step (entry_matches router prefix e t.communities) e.permit (map_row router u prefix es (exact_row t)) (entries_give router u prefix es t)
    (entries_exact count router u prefix es t ok (All-tail (IsNetMapEntry count router) e es all) small) where
      step : (matches permit : Bool) (later : Row) (behind : Option Route) → later ≡ exact_or_bottom behind →
          by_entry (certain_status matches) (cond permit (row_under_sets router u e.sets (exact_row t)) bottom) later ≡
          exact_or_bottom (cond matches (cond permit (Some (under_sets router u e.sets t)) None) behind)
      step true true later behind is = sets_exact count (length router.community_lists) router u e.sets t ok (All-head (IsNetMapEntry count router) e es all).sets small
      step true false later behind is = refl
      step false permit later behind is = is

-- what is on the path of what a map gives
entries_path : (router : Router) (u : ℕ) (prefix : PrefixValue) (es : List NetMapEntry) (t r : Route) (x : ℕ) → entries_give router u prefix es t ≡ Some r → is_on x r.path ≡ true → (x ≡ u) ⊎ (is_on x t.path ≡ true)
unfolding entries_give under_sets
entries_path router u prefix [] t r x gives on = absurd (cc)
entries_path router u prefix (e ∷ es) t r x gives on =
    step (entry_matches router prefix e t.communities) e.permit gives (λ g. entries_path router u prefix es t r x g on) where
      step : (matches permit : Bool) → cond matches (cond permit (Some (under_sets router u e.sets t)) None) (entries_give router u prefix es t) ≡ Some r →
          (entries_give router u prefix es t ≡ Some r → (x ≡ u) ⊎ (is_on x t.path ≡ true)) → (x ≡ u) ⊎ (is_on x t.path ≡ true)
      step true true g behind = front_cases x u e.sets.prepend t.path (let f : under_sets router u e.sets t ≡ r = some_same (under_sets router u e.sets t) r g in rw (← f) at on)
      step true false g behind = absurd (cc)
      step false permit g behind = behind g

-- ---- policies

-- a router of a network
pub record IsAt (net : NetValue) (u : ℕ) : Type 0 where
  pub router : Router
  pub is : slice_get net.routers u ≡ Some router
  pub ok : IsRouter (length net.communities) router
  pub low : u < 64

pub router_at : (net : NetValue) (u : ℕ) → IsNet net → u < length net.routers → IsAt net u
router_at net u valid inside = elim ((slice_get_cases net.routers u).1) [
  | inl found ↦ record {
    router = found.0;
    is = found.2;
    ok = all_at (IsRouter (length net.communities)) net.routers u found.0 valid.routers found.2;
    low = (let f = valid.few_routers in omega arith);
  }
  | inr past ↦ absurd (let f = past.0 in omega arith)
]

pub map_in : (net : NetValue) (u : ℕ) (policy : Policy) (prefix : PrefixValue) (row : Row) (at : IsAt net u) → IsInhabited row → abstract_map net u policy prefix row ≡ policy_row at.router u policy prefix row
unfolding abstract_map
map_in net u policy prefix row at i = let e = (inhabited_is row).1 i in rw (e, at.is) refl

pub map_out : (net : NetValue) (u : ℕ) (policy : Policy) (prefix : PrefixValue) (row : Row) → inhabited row ≡ false → abstract_map net u policy prefix row ≡ bottom
unfolding abstract_map
map_out net u policy prefix row e = rw e refl

pub sure_in : (net : NetValue) (u : ℕ) (policy : Policy) (prefix : PrefixValue) (row : Row) (at : IsAt net u) → sure net u policy prefix row ≡ sure_policy at.router policy prefix row
unfolding sure
sure_in net u policy prefix row at = rw at.is refl

pub gives_in : (net : NetValue) (u position : ℕ) (prefix : PrefixValue) (t : Route) (at : IsAt net u) → map_gives net u (Map position) prefix t ≡ entries_give at.router u prefix (map_entries at.router position) t
unfolding map_gives
gives_in net u position prefix t at = rw at.is refl

pub map_sound : (net : NetValue) (u : ℕ) (policy : Policy) (prefix : PrefixValue) (row : Row) (t r : Route) → IsNet net → u < length net.routers → Fits t row → map_gives net u policy prefix t ≡ Some r → Fits r (abstract_map net u policy prefix row)
unfolding map_gives
map_sound net u policy prefix row t r valid inside fits gives =
    let at = router_at net u valid inside in
    subst (λ (x : Row). Fits r x) (sym (map_in net u policy prefix row at (fits_inhabited t row fits))) (go policy at gives) where
      go : (policy : Policy) (at : IsAt net u) → map_gives net u policy prefix t ≡ Some r → Fits r (policy_row at.router u policy prefix row)
      go Closed at gives = absurd (cc)
      go Open at gives = subst (λ (x : Route). Fits x row) (some_same t r gives) fits
      go (Map position) at gives =
          entries_sound (length net.communities) at.router u prefix (map_entries at.router position) t r row at.ok (entries_at (length net.communities) at.router position at.ok) fits
          (sym (gives_in net u position prefix t at) ∙ gives)

-- on rows above, unless the row has no route
pub map_grows : (net : NetValue) (u : ℕ) (policy : Policy) (prefix : PrefixValue) (a b : Row) → IsNet net → u < length net.routers → IsInhabited a → IsBelow a b → IsBelow (abstract_map net u policy prefix a) (abstract_map net u policy prefix b)
map_grows net u policy prefix a b valid inside i l =
    let at = router_at net u valid inside in
    let e = map_in net u policy prefix a at i in
    let f = map_in net u policy prefix b at (inhabited_up a b l i) in
    rw (e, f) (go policy at) where
      go : (policy : Policy) (at : IsAt net u) → IsBelow (policy_row at.router u policy prefix a) (policy_row at.router u policy prefix b)
      go Closed at = below_refl bottom
      go Open at = l
      go (Map position) at = entries_grow (length net.communities) at.router u prefix (map_entries at.router position) a b at.ok i l

pub map_either : (net : NetValue) (u : ℕ) (policy : Policy) (prefix : PrefixValue) (row : Row) → IsNet net → u < length net.routers → (abstract_map net u policy prefix row ≡ bottom) ⊎ IsInhabited (abstract_map net u policy prefix row)
map_either net u policy prefix row valid inside = let at = router_at net u valid inside in elim (bool_cases (inhabited row)) [
  | inl some ↦ let i = (inhabited_is row).0 some in let e = map_in net u policy prefix row at i in rw e (go policy at i)
  | inr none ↦ inl (map_out net u policy prefix row none)
] where
  go : (policy : Policy) (at : IsAt net u) → IsInhabited row → (policy_row at.router u policy prefix row ≡ bottom) ⊎ IsInhabited (policy_row at.router u policy prefix row)
  go Closed at i = inl refl
  go Open at i = inr i
  go (Map position) at i = entries_either (length net.communities) at.router u prefix (map_entries at.router position) row at.ok (entries_at (length net.communities) at.router position at.ok) i

pub map_inhabited : (net : NetValue) (u : ℕ) (policy : Policy) (prefix : PrefixValue) (row : Row) → IsNet net → u < length net.routers → IsInhabited row → sure net u policy prefix row ≡ true → IsInhabited (abstract_map net u policy prefix row)
map_inhabited net u policy prefix row valid inside i s =
    let at = router_at net u valid inside in
    subst IsInhabited (sym (map_in net u policy prefix row at i)) (go policy at (sym (sure_in net u policy prefix row at) ∙ s)) where
      go : (policy : Policy) (at : IsAt net u) → sure_policy at.router policy prefix row ≡ true → IsInhabited (policy_row at.router u policy prefix row)
      go Closed at s = absurd (cc)
      go Open at s = i
      go (Map position) at s = entries_sure (length net.communities) at.router u prefix (map_entries at.router position) row at.ok (entries_at (length net.communities) at.router position at.ok) i s

pub sure_gives : (net : NetValue) (u : ℕ) (policy : Policy) (prefix : PrefixValue) (row : Row) (t : Route) → IsNet net → u < length net.routers → Fits t row → sure net u policy prefix row ≡ true → (r : Route) × (map_gives net u policy prefix t ≡ Some r)
unfolding map_gives
sure_gives net u policy prefix row t valid inside fits s =
    let at = router_at net u valid inside in go policy at (sym (sure_in net u policy prefix row at) ∙ s) where
      go : (policy : Policy) (at : IsAt net u) → sure_policy at.router policy prefix row ≡ true → (r : Route) × (map_gives net u policy prefix t ≡ Some r)
      go Closed at s = absurd (cc)
      go Open at s = (t, refl)
      go (Map position) at s =
          let g = entries_surely_give (length net.communities) at.router u prefix (map_entries at.router position) t row at.ok fits s in
          (g.0, gives_in net u position prefix t at ∙ g.1)

pub map_exact : (net : NetValue) (u : ℕ) (policy : Policy) (prefix : PrefixValue) (t : Route) → IsNet net → u < length net.routers → t.communities < 2 ^ 64 → abstract_map net u policy prefix (exact_row t) ≡ exact_or_bottom (map_gives net u policy prefix t)
unfolding map_gives
map_exact net u policy prefix t valid inside small =
    let at = router_at net u valid inside in
    map_in net u policy prefix (exact_row t) at (fits_inhabited t (exact_row t) (exact_is_least t small).fits) ∙ go policy at where
      go : (policy : Policy) (at : IsAt net u) → policy_row at.router u policy prefix (exact_row t) ≡ exact_or_bottom (map_gives net u policy prefix t)
      go Closed at = refl
      go Open at = refl
      go (Map position) at =
          entries_exact (length net.communities) at.router u prefix (map_entries at.router position) t at.ok (entries_at (length net.communities) at.router position at.ok) small ∙
          ap exact_or_bottom (sym (gives_in net u position prefix t at))

pub map_path : (net : NetValue) (u : ℕ) (policy : Policy) (prefix : PrefixValue) (t r : Route) (x : ℕ) → IsNet net → u < length net.routers → map_gives net u policy prefix t ≡ Some r → is_on x r.path ≡ true → (x ≡ u) ⊎ (is_on x t.path ≡ true)
unfolding map_gives
map_path net u policy prefix t r x valid inside gives on = let at = router_at net u valid inside in go policy at gives where
  go : (policy : Policy) (at : IsAt net u) → map_gives net u policy prefix t ≡ Some r → (x ≡ u) ⊎ (is_on x t.path ≡ true)
  go Closed at gives = absurd (cc)
  go Open at gives = inr (let e : t ≡ r = some_same t r gives in rw (← e) at on)
  go (Map position) at gives = entries_path at.router u prefix (map_entries at.router position) t r x (sym (gives_in net u position prefix t at) ∙ gives) on

pub policy_words : (net : NetValue) (u : ℕ) (policy : Policy) (prefix : PrefixValue) (row : Row) → IsNet net → u < length net.routers → HasWords row → HasWords (abstract_map net u policy prefix row)
policy_words net u policy prefix row valid inside w =
    let at = router_at net u valid inside in elim (bool_cases (inhabited row)) [
      | inl some ↦ subst HasWords (sym (map_in net u policy prefix row at ((inhabited_is row).0 some))) (go policy at)
      | inr none ↦ subst HasWords (sym (map_out net u policy prefix row none)) bottom_words
    ] where
      go : (policy : Policy) (at : IsAt net u) → HasWords (policy_row at.router u policy prefix row)
      go Closed at = bottom_words
      go Open at = w
      go (Map position) at = map_words (length net.communities) at.router u prefix (map_entries at.router position) row at.low at.ok (entries_at (length net.communities) at.router position at.ok) w
