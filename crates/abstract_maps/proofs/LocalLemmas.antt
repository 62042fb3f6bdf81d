-- The row of a local route: what it is the row of, and that it is a row of 64-bit words with short paths.
use Rattle.std.proofs.Common.{ℕ, ◌≡◌, ◌<◌, ◌≤◌, ◌+◌, ◌^◌, inl, inr, Bool, true, false, List, [], ◌∷◌, length, Option, Some, None, IfSome, All, slice_get, arith, sym, subst, ◌∙◌, refl, cond}
use Rattle.std.proofs.lemmas.List.Elements.{All-head, All-nil, All-tail}
use Rattle.net_types.specs.declared.config.Origin.{Origin}
use Rattle.net_types.specs.declared.config.Origin.TheVariants.{Igp, Incomplete}
use Rattle.net_types.specs.declared.network.NetMapEntry.{NetMapEntry}
use Rattle.net_types.specs.declared.network.Owned.{Owned}
use Rattle.net_types.specs.declared.network.Policy.{Policy}
use Rattle.net_types.specs.declared.network.Policy.TheVariants.{Closed, Open, Map}
use Rattle.net_types.specs.declared.network.Router.{Router}
use Rattle.net_types.specs.declared.routes.Route.{Route}
use Rattle.net_types.specs.NetFacts.{IsNet, IsNetMapEntry, IsRouter}
use Rattle.net_types.specs.NetValue.{NetValue}
use Rattle.net_types.specs.PrefixValue.{PrefixValue}
use Rattle.net_types.specs.Owners.{entry_of}
use Rattle.abstract_route.specs.declared.rows.Row.{Row}
use Rattle.abstract_route.specs.Rows.{IsInhabited, IsRow, bottom}
use Rattle.abstract_route.specs.Fits.{IsExact, exact_row}
use Rattle.abstract_route.proofs.FitLemmas.{exact_is_least, exact_is_row, fits_inhabited}
use Rattle.abstract_route.proofs.HeightLemmas.{bottom_is_row}
use Rattle.concrete_algebra.specs.LocalRoutes.{local_of, originated}
use Rattle.concrete_algebra.specs.Maps.{entries_give, entry_matches, map_entries, map_gives, under_sets}
use Rattle.abstract_maps.specs.declared.statuses.Status.{Status}
use Rattle.abstract_maps.specs.declared.statuses.Status.TheVariants.{No, Maybe, Yes}
use Rattle.abstract_maps.specs.AbstractMap.{IsShort, abstract_map, by_entry, entry_row, map_row, policy_row}
use Rattle.abstract_maps.specs.LocalRow.{exact_or_bottom, local_row}
use Rattle.abstract_maps.specs.RowSets.{row_under_sets}
use Rattle.abstract_maps.specs.Statuses.{entry_status}
use Rattle.abstract_maps.proofs.SetWords.{entries_at}
use Rattle.abstract_maps.proofs.RowSetLemmas.{sets_small}
use Rattle.abstract_maps.proofs.WordLemmas.{row_of, words_of}
use Rattle.abstract_maps.proofs.MapLemmas.{IsAt, gives_in, map_either, map_exact, map_in, policy_words, router_at, some_same}

-- ---- what maps keep of a route, and how far they lengthen a row's paths

entries_small : (count : ℕ) (router : Router) (u : ℕ) (prefix : PrefixValue) (es : List NetMapEntry) (t r : Route) → IsRouter count router → All (IsNetMapEntry count router) es → t.communities < 2 ^ 64 → entries_give router u prefix es t ≡ Some r → r.communities < 2 ^ 64
unfolding entries_give
entries_small count router u prefix [] t r ok all small gives = absurd (cc)
entries_small count router u prefix (e ∷ es) t r ok all small gives =
    step (entry_matches router prefix e t.communities) e.permit gives (entries_small count router u prefix es t r ok (All-tail (IsNetMapEntry count router) e es all) small) where
      step : (matches permit : Bool) → cond matches (cond permit (Some (under_sets router u e.sets t)) None) (entries_give router u prefix es t) ≡ Some r →
          (entries_give router u prefix es t ≡ Some r → r.communities < 2 ^ 64) → r.communities < 2 ^ 64
      step true true g behind = subst (λ (x : Route). x.communities < 2 ^ 64) (some_same (under_sets router u e.sets t) r g)
          (sets_small count (length router.community_lists) router u e.sets t ok (All-head (IsNetMapEntry count router) e es all).sets small)
      step true false g behind = absurd (cc)
      step false permit g behind = behind g

map_small : (net : NetValue) (u : ℕ) (policy : Policy) (prefix : PrefixValue) (t r : Route) → IsNet net → u < length net.routers → t.communities < 2 ^ 64 → map_gives net u policy prefix t ≡ Some r → r.communities < 2 ^ 64
unfolding map_gives
map_small net u policy prefix t r valid inside small gives = let at = router_at net u valid inside in go policy at gives where
  go : (policy : Policy) (at : IsAt net u) → map_gives net u policy prefix t ≡ Some r → r.communities < 2 ^ 64
  go Closed at gives = absurd (cc)
  go Open at gives = subst (λ (x : Route). x.communities < 2 ^ 64) (some_same t r gives) small
  go (Map position) at gives = entries_small (length net.communities) at.router u prefix (map_entries at.router position) t r at.ok (entries_at (length net.communities) at.router position at.ok) small (sym (gives_in net u position prefix t at) ∙ gives)

entries_long : (count : ℕ) (router : Router) (u : ℕ) (prefix : PrefixValue) (es : List NetMapEntry) (row : Row) → All (IsNetMapEntry count router) es → (map_row router u prefix es row).length.high ≤ row.length.high + 10
unfolding map_row row_under_sets
entries_long count router u prefix [] row all = omega arith
entries_long count router u prefix (e ∷ es) row all =
    step (entry_status router prefix e row) (entry_row router u e row) (map_row router u prefix es row) (here e.permit) (entries_long count router u prefix es row (All-tail (IsNetMapEntry count router) e es all)) where
      here : (permit : Bool) → (cond permit (row_under_sets router u e.sets row) bottom).length.high ≤ row.length.high + 10
      here true = let f = (All-head (IsNetMapEntry count router) e es all).sets.prepend in omega arith
      here false = omega arith

      step : (st : Status) (a b : Row) → a.length.high ≤ row.length.high + 10 → b.length.high ≤ row.length.high + 10 → (by_entry st a b).length.high ≤ row.length.high + 10
      step No a b p q = q
      step Yes a b p q = p
      step Maybe a b p q = omega arith

pub map_long : (net : NetValue) (u : ℕ) (policy : Policy) (prefix : PrefixValue) (row : Row) → IsNet net → u < length net.routers → IsInhabited row → (abstract_map net u policy prefix row).length.high ≤ row.length.high + 10
map_long net u policy prefix row valid inside i =
    let at = router_at net u valid inside in
    let e = map_in net u policy prefix row at i in rw e (go policy at) where
      go : (policy : Policy) (at : IsAt net u) → (policy_row at.router u policy prefix row).length.high ≤ row.length.high + 10
      go Closed at = omega arith
      go Open at = omega arith
      go (Map position) at = entries_long (length net.communities) at.router u prefix (map_entries at.router position) row (entries_at (length net.communities) at.router position at.ok)

-- ---- how a router comes to its local route

pub data LocalWay (net : NetValue) (prefix : PrefixValue) (u : ℕ) (distance : Option ℕ) : Type 0 where
  way_none : local_of net prefix u distance ≡ None → LocalWay net prefix u distance
  way_own : local_of net prefix u distance ≡ Some (originated Igp 0) → LocalWay net prefix u distance
  way_map : (policy : Policy) (med : ℕ) → (IfSome distance (λ d. d < 2 ^ 64) → med < 2 ^ 64) →
      local_of net prefix u distance ≡ map_gives net u policy prefix (originated Incomplete med) → LocalWay net prefix u distance

local_way : (net : NetValue) (prefix : PrefixValue) (u : ℕ) (distance : Option ℕ) → LocalWay net prefix u distance
unfolding local_of
local_way net prefix u distance = at_router (slice_get net.routers u) refl where
  far : (router : Router) → slice_get net.routers u ≡ Some router → entry_of prefix router.owned ≡ None → (o : Option ℕ) → distance ≡ o → LocalWay net prefix u distance
  far router is none None e = way_none (rw (is, none, e) refl)
  far router is none (Some d) e = way_map router.ospf d (λ small. (let f = rw e at small in f)) (rw (is, none, e) refl)

  own : (router : Router) (entry : Owned) → slice_get net.routers u ≡ Some router → entry_of prefix router.owned ≡ Some entry → (network stub : Bool) → entry.network ≡ network → entry.stub ≡ stub → LocalWay net prefix u distance
  own router entry is found true stub e f = way_own (rw (is, found, e) refl)
  own router entry is found false true e f = way_map router.connected 0 (λ small. omega arith) (rw (is, found, e, f) refl)
  own router entry is found false false e f = way_none (rw (is, found, e, f) refl)

  at_entry : (router : Router) → slice_get net.routers u ≡ Some router → (o : Option Owned) → entry_of prefix router.owned ≡ o → LocalWay net prefix u distance
  at_entry router is None none = far router is none distance refl
  at_entry router is (Some entry) found = own router entry is found entry.network entry.stub refl refl

  at_router : (o : Option Router) → slice_get net.routers u ≡ o → LocalWay net prefix u distance
  at_router None is = way_none (rw is refl)
  at_router (Some router) is = at_entry router is (entry_of prefix router.owned) refl

-- ---- its row

begun_row : (o : Origin) (med : ℕ) → med < 2 ^ 64 → IsRow (exact_row (originated o med))
begun_row o med small = exact_is_row (originated o med) (omega arith) (omega arith) (omega arith) small (omega arith) (All-nil (λ x. x < 64))

begun_inhabited : (o : Origin) (med : ℕ) → IsInhabited (exact_row (originated o med))
begun_inhabited o med = fits_inhabited (originated o med) (exact_row (originated o med)) (exact_is_least (originated o med) (omega arith)).fits

-- what a map makes of the row of a local route
mapped_row : (net : NetValue) (u : ℕ) (policy : Policy) (prefix : PrefixValue) (o : Origin) (med : ℕ) → IsNet net → u < length net.routers → med < 2 ^ 64 → IsRow (abstract_map net u policy prefix (exact_row (originated o med)))
mapped_row net u policy prefix o med valid inside small = elim (map_either net u policy prefix (exact_row (originated o med)) valid inside) [
  | inl none ↦ subst IsRow (sym none) bottom_is_row
  | inr some ↦ row_of (abstract_map net u policy prefix (exact_row (originated o med)))
      (let h : (abstract_map net u policy prefix (exact_row (originated o med))).length.high ≤ 0 + 10 = map_long net u policy prefix (exact_row (originated o med)) valid inside (begun_inhabited o med) in let q = some.length in (omega arith, omega arith))
      (policy_words net u policy prefix (exact_row (originated o med)) valid inside (words_of (exact_row (originated o med)) (begun_row o med small)))
]

pub local_is_row : (net : NetValue) (prefix : PrefixValue) (u : ℕ) (distance : Option ℕ) → IsNet net → u < length net.routers → IfSome distance (λ d. d < 2 ^ 64) → IsRow (local_row net prefix u distance)
local_is_row net prefix u distance valid inside small = elim (local_way net prefix u distance) [
  | way_none e ↦ subst (λ (o : Option Route). IsRow (exact_or_bottom o)) (sym e) bottom_is_row
  | way_own e ↦ subst (λ (o : Option Route). IsRow (exact_or_bottom o)) (sym e) (begun_row Igp 0 (omega arith))
  | way_map policy med bound e ↦ subst (λ (o : Option Route). IsRow (exact_or_bottom o)) (sym e)
      (subst IsRow (map_exact net u policy prefix (originated Incomplete med) valid inside (omega arith)) (mapped_row net u policy prefix Incomplete med valid inside (bound small)))
]

local_high : (net : NetValue) (prefix : PrefixValue) (u : ℕ) (distance : Option ℕ) → IsNet net → u < length net.routers → (local_row net prefix u distance).length.high ≤ 10
local_high net prefix u distance valid inside = elim (local_way net prefix u distance) [
  | way_none e ↦ subst (λ (o : Option Route). (exact_or_bottom o).length.high ≤ 10) (sym e) (omega arith)
  | way_own e ↦ subst (λ (o : Option Route). (exact_or_bottom o).length.high ≤ 10) (sym e) (omega arith)
  | way_map policy med bound e ↦ subst (λ (o : Option Route). (exact_or_bottom o).length.high ≤ 10) (sym e)
      (subst (λ (r : Row). r.length.high ≤ 10) (map_exact net u policy prefix (originated Incomplete med) valid inside (omega arith))
      (let h : (abstract_map net u policy prefix (exact_row (originated Incomplete med))).length.high ≤ 0 + 10 = map_long net u policy prefix (exact_row (originated Incomplete med)) valid inside (begun_inhabited Incomplete med) in omega arith))
]

pub local_is_short : (net : NetValue) (prefix : PrefixValue) (u : ℕ) (distance : Option ℕ) → IsNet net → u < length net.routers → IsShort (local_row net prefix u distance)
local_is_short net prefix u distance valid inside = λ i. let h = local_high net prefix u distance valid inside in let q = i.length in (omega arith, omega arith)

local_small : (net : NetValue) (prefix : PrefixValue) (u : ℕ) (distance : Option ℕ) (r : Route) → IsNet net → u < length net.routers → local_of net prefix u distance ≡ Some r → r.communities < 2 ^ 64
local_small net prefix u distance r valid inside gives = elim (local_way net prefix u distance) [
  | way_none e ↦ absurd (let f = gives in cc)
  | way_own e ↦ subst (λ (x : Route). x.communities < 2 ^ 64) (some_same (originated Igp 0) r (sym e ∙ gives)) (omega arith)
  | way_map policy med bound e ↦ map_small net u policy prefix (originated Incomplete med) r valid inside (omega arith) (sym e ∙ gives)
]

pub local_is_exact : (net : NetValue) (prefix : PrefixValue) (u : ℕ) (distance : Option ℕ) (r : Route) → IsNet net → u < length net.routers → local_of net prefix u distance ≡ Some r → IsExact r (local_row net prefix u distance)
local_is_exact net prefix u distance r valid inside gives =
    subst (λ (o : Option Route). IsExact r (exact_or_bottom o)) (sym gives) (exact_is_least r (local_small net prefix u distance r valid inside gives))
