-- On the row of one route each step of a transfer is that step on the route, and tests say what becomes of it.
use Rattle.std.proofs.Common.{ℕ, ◌≡◌, ◌≢◌, ◌<◌, ◌≤◌, ◌==◌, ◌+◌, ◌^◌, ◌&&◌, ◌||◌, ◌⊎◌, inl, inr, min, Bool, true, false, not, List, [], ◌∷◌, length, Option, Some, None, IfSome, option_map, option_and_then, bit_or, arith, ap, sym, subst, ◌∙◌, refl, cond}
use Rattle.std.specs.Int.{bit_not, w64}
use Rattle.std.specs.Option.{is_some}
use Rattle.std.proofs.lemmas.Bool.Decides.{nat_tests}
use Rattle.std.proofs.lemmas.Nat.{pow_below}
use Rattle.net_types.specs.Routes.{is_on}
use Rattle.net_types.specs.declared.arcs.Arc.{Arc}
use Rattle.net_types.specs.declared.network.End.{End}
use Rattle.net_types.specs.declared.network.NetMapEntry.{NetMapEntry}
use Rattle.net_types.specs.declared.network.Policy.{Policy}
use Rattle.net_types.specs.declared.network.Policy.TheVariants.{Closed, Open, Map}
use Rattle.net_types.specs.declared.network.Router.{Router}
use Rattle.net_types.specs.declared.routes.Route.{Route}
use Rattle.net_types.specs.NetFacts.{IsNet, IsRouter, no_advertise, no_export}
use Rattle.net_types.specs.NetValue.{NetValue}
use Rattle.net_types.specs.PrefixValue.{PrefixValue}
use Rattle.net_types.specs.Sets.{has}
use Rattle.net_types.proofs.SetLemmas.{has_common, same_sets}
use Rattle.abstract_route.specs.declared.rows.Row.{Row}
use Rattle.abstract_route.specs.Fits.{exact_row, routers_of}
use Rattle.abstract_route.specs.Rows.{IsInhabited, bottom, inhabited, single}
use Rattle.abstract_route.proofs.FitLemmas.{exact_is_least, fits_inhabited, has-routers_of, inhabited_is}
use Rattle.abstract_route.proofs.RowLemmas.{row_same}
use Rattle.concrete_algebra.specs.Carrying.{as_received, holds_value, is_kept_home, learned_over, sent_by}
use Rattle.concrete_algebra.specs.Maps.{entries_give, entry_matches, map_entries, map_gives, under_sets}
use Rattle.abstract_maps.specs.declared.statuses.Status.{Status}
use Rattle.abstract_maps.specs.AbstractMap.{abstract_map, sure, sure_by, sure_entries, sure_policy}
use Rattle.abstract_maps.specs.LocalRow.{exact_or_bottom}
use Rattle.abstract_maps.specs.RowSets.{lengthened}
use Rattle.abstract_maps.specs.Statuses.{certain_status}
use Rattle.abstract_maps.specs.Transfer.{between, between_free, cut, cut_row, exported, imported, less, longest, passes_between, received, received_free, row_sent_by, surely_leaves}
use Rattle.abstract_maps.proofs.SetWords.{below_or_not, has_minus, has_not, has_single, small_above}
use Rattle.abstract_maps.proofs.StatusLemmas.{entry_sharp}
use Rattle.abstract_maps.proofs.RowSetLemmas.{routers-front}
use Rattle.abstract_maps.proofs.WordLemmas.{HasWords}
use Rattle.abstract_maps.proofs.MapLemmas.{IsAt, gives_in, map_exact, map_path, policy_words, router_at, sure_in}
use Rattle.abstract_maps.proofs.TransferLemmas.{as_sent, exported_words, holds_at, numbered, sends, takes}
use Rattle.abstract_maps.proofs.GrowthLemmas.{cut_inhabited, cut_out, free_none, imported_out, received_none, received_words, sent_out}

-- ---- where a policy is sure

entries_sure : (count : ℕ) (router : Router) (u : ℕ) (prefix : PrefixValue) (es : List NetMapEntry) (t : Route) → IsRouter count router → t.communities < 2 ^ 64 → sure_entries router prefix es (exact_row t) ≡ is_some (entries_give router u prefix es t)
unfolding sure_entries entries_give
entries_sure count router u prefix [] t ok small = refl
entries_sure count router u prefix (e ∷ es) t ok small =
    ap (λ (s : Status). sure_by s e.permit (sure_entries router prefix es (exact_row t))) (entry_sharp count router prefix e t ok small) ∙
    step (entry_matches router prefix e t.communities) e.permit (sure_entries router prefix es (exact_row t)) (entries_give router u prefix es t)
    (entries_sure count router u prefix es t ok small) where
      step : (matches permit later : Bool) (behind : Option Route) → later ≡ is_some behind →
          sure_by (certain_status matches) permit later ≡ is_some (cond matches (cond permit (Some (under_sets router u e.sets t)) None) behind)
      step true true later behind is = refl
      step true false later behind is = refl
      step false permit later behind is = is

pub sure_exact : (net : NetValue) (u : ℕ) (policy : Policy) (prefix : PrefixValue) (t : Route) → IsNet net → u < length net.routers → t.communities < 2 ^ 64 → sure net u policy prefix (exact_row t) ≡ is_some (map_gives net u policy prefix t)
unfolding map_gives
sure_exact net u policy prefix t valid inside small =
    let at = router_at net u valid inside in sure_in net u policy prefix (exact_row t) at ∙ go policy at where
      go : (policy : Policy) (at : IsAt net u) → sure_policy at.router policy prefix (exact_row t) ≡ is_some (map_gives net u policy prefix t)
      go Closed at = refl
      go Open at = refl
      go (Map position) at =
          entries_sure (length net.communities) at.router u prefix (map_entries at.router position) t at.ok small ∙
          ap is_some (sym (gives_in net u position prefix t at))

-- ---- what the sender announces

-- neither of the two communities that keep a route home is held exactly where both are lacked
pub leave_exact : (net : NetValue) (c : ℕ) → IsNet net → c < 2 ^ 64 → (holds_value net no_export (bit_not w64 c) && holds_value net no_advertise (bit_not w64 c)) ≡ not (is_kept_home net c)
leave_exact net c valid small =
    let a = numbered net no_export valid valid.no_export in
    let b = numbered net no_advertise valid valid.no_advertise in
    step (holds_value net no_export c) (holds_value net no_advertise c) (holds_value net no_export (bit_not w64 c)) (holds_value net no_advertise (bit_not w64 c))
    (holds_at net no_export (bit_not w64 c) a ∙ has_not c a.number small a.low ∙ ap not (sym (holds_at net no_export c a)))
    (holds_at net no_advertise (bit_not w64 c) b ∙ has_not c b.number small b.low ∙ ap not (sym (holds_at net no_advertise c b))) where
      step : (h1 h2 l1 l2 : Bool) → l1 ≡ not h1 → l2 ≡ not h2 → (l1 && l2) ≡ not (h1 || h2)
      step true h2 l1 l2 e f = rw e refl
      step false true l1 l2 e f = rw (e, f) refl
      step false false l1 l2 e f = rw (e, f) refl

exact_inhabited : (t : Route) → t.communities < 2 ^ 64 → IsInhabited (exact_row t)
exact_inhabited t small = fits_inhabited t (exact_row t) (exact_is_least t small).fits

-- a route that may be there holds communities of a word
abbrev IsMasked : Option Route → Type 0
IsMasked o = IfSome o (λ m. m.communities < 2 ^ 64)

masked_of : (o : Option Route) → HasWords (exact_or_bottom o) → IsMasked o
masked_of None w = tt
masked_of (Some m) w = w.has

given_masked : (net : NetValue) (u : ℕ) (policy : Policy) (prefix : PrefixValue) (t : Route) → IsNet net → u < length net.routers → HasWords (exact_row t) → IsMasked (map_gives net u policy prefix t)
given_masked net u policy prefix t valid inside w =
    masked_of (map_gives net u policy prefix t) (subst HasWords (map_exact net u policy prefix t valid inside w.has) (policy_words net u policy prefix (exact_row t) valid inside w))

pub sent_inside : (v : ℕ) (row : Row) → IsInhabited row → row_sent_by v row ≡ record row { length = lengthened 1 row.length; may = bit_or row.may (2 ^ v); must = bit_or row.must (2 ^ v) }
unfolding row_sent_by
sent_inside v row i = let e = (inhabited_is row).1 i in rw e refl

sent_exact : (v : ℕ) (o : Option Route) → IsMasked o → row_sent_by v (exact_or_bottom o) ≡ exact_or_bottom (option_map (sent_by v) o)
sent_exact v None small = sent_out v bottom refl
sent_exact v (Some m) small =
    sent_inside v (exact_row m) (exact_inhabited m small) ∙
    row_same (record (exact_row m) { length = lengthened 1 (single (length m.path)); may = bit_or (routers_of m.path) (2 ^ v); must = bit_or (routers_of m.path) (2 ^ v) }) (exact_row (sent_by v m))
    refl refl (longer (length m.path) (length (v ∷ m.path)) (omega arith)) refl refl refl refl (routers-front 1 v m.path) (routers-front 1 v m.path) where
      longer : (n k : ℕ) → k ≡ n + 1 → lengthened 1 (single n) ≡ single k
      longer n k e = rw e refl

exported_exact : (net : NetValue) (prefix : PrefixValue) (from : End) (t : Route) → IsNet net → from.router < length net.routers → HasWords (exact_row (as_sent t)) → exported net prefix from (exact_row (as_sent t)) ≡ exact_or_bottom (sends net prefix from t)
unfolding exported
exported_exact net prefix from t valid inside w =
    ap (λ (b : Bool). cond b (row_sent_by from.router (abstract_map net from.router from.export prefix (exact_row (as_sent t)))) bottom) (leave_exact net t.communities valid w.has) ∙
    home (is_kept_home net t.communities) where
      home : (b : Bool) → cond (not b) (row_sent_by from.router (abstract_map net from.router from.export prefix (exact_row (as_sent t)))) bottom ≡
          exact_or_bottom (cond b None (option_map (sent_by from.router) (map_gives net from.router from.export prefix (as_sent t))))
      home true = refl
      home false =
          ap (row_sent_by from.router) (map_exact net from.router from.export prefix (as_sent t) valid inside w.has) ∙
          sent_exact from.router (map_gives net from.router from.export prefix (as_sent t)) (given_masked net from.router from.export prefix (as_sent t) valid inside w)

-- ---- what the receiver begins with

less_none : (u set : ℕ) → u < 64 → set < 2 ^ 64 → has set u ≡ false → less set u ≡ set
less_none u set low small off = same_sets (less set u) set (λ x. elim (below_or_not x 64) [
  | inl inside ↦ has_minus set (2 ^ u) x (pow_below u 64 low) inside ∙ step (has set x) (has (2 ^ u) x) (x == u) (has_single u x) (λ e. none x (same x e))
  | inr high ↦ has_common set (bit_not w64 (2 ^ u)) x ∙ outside (has set x) (has (bit_not w64 (2 ^ u)) x) (small_above set x small high)
]) where
  same : (x : ℕ) → (x == u) ≡ true → x ≡ u
  same x e = grind (arith, nat_tests)

  none : (x : ℕ) → x ≡ u → has set x ≡ false
  none x e = rw e off

  step : (h s b : Bool) → s ≡ b → (b ≡ true → h ≡ false) → (h && not s) ≡ h
  step h s true e f = let g = f refl in rw g refl
  step true s false e f = rw e refl
  step false s false e f = refl

  outside : (h n : Bool) → h ≡ false → (h && n) ≡ h
  outside h n e = rw e refl

received_met : (u : ℕ) (s : Route) → is_on u s.path ≡ true → received u (exact_row s) ≡ bottom
unfolding received
received_met u s on =
    ap (λ (b : Bool). cond b bottom (record (exact_row s) { weight = single 0; preference = single 100; may = less (routers_of s.path) u })) (has-routers_of s.path u ∙ on)

received_exact : (u : ℕ) (s : Route) → u < 64 → routers_of s.path < 2 ^ 64 → is_on u s.path ≡ false → received u (exact_row s) ≡ exact_row (as_received s)
unfolding received
received_exact u s low small off =
    let e : has (routers_of s.path) u ≡ false = has-routers_of s.path u ∙ off in
    ap (λ (b : Bool). cond b bottom (record (exact_row s) { weight = single 0; preference = single 100; may = less (routers_of s.path) u })) e ∙
    row_same (record (exact_row s) { weight = single 0; preference = single 100; may = less (routers_of s.path) u }) (exact_row (as_received s))
    refl refl refl refl refl refl refl (less_none u (routers_of s.path) low small e) refl

free_exact : (u : ℕ) (s : Route) → u < 64 → routers_of s.path < 2 ^ 64 → is_on u s.path ≡ false → received_free u (exact_row s) ≡ exact_row (as_received s)
unfolding received_free
free_exact u s low small off =
    let e : has (routers_of s.path) u ≡ false = has-routers_of s.path u ∙ off in
    row_same (record (exact_row s) { weight = single 0; preference = single 100; may = less (routers_of s.path) u; must = less (routers_of s.path) u }) (exact_row (as_received s))
    refl refl refl refl refl refl refl (less_none u (routers_of s.path) low small e) (less_none u (routers_of s.path) low small e)

-- ---- what the receiver takes in

cut_inside : (most : ℕ) (row : Row) → IsInhabited row → cut_row most row ≡ record row { length = cut most row.length }
unfolding cut_row
cut_inside most row i = let e = (inhabited_is row).1 i in rw e refl

-- the path of a route that may be there is no longer
abbrev IsWithin : ℕ → Option Route → Type 0
IsWithin most o = IfSome o (λ m. length m.path ≤ most)

cut_exact : (most : ℕ) (o : Option Route) → IsMasked o → IsWithin most o → cut_row most (exact_or_bottom o) ≡ exact_or_bottom o
cut_exact most None small short = cut_out most bottom refl
cut_exact most (Some m) small short =
    cut_inside most (exact_row m) (exact_inhabited m small) ∙
    row_same (record (exact_row m) { length = cut most (single (length m.path)) }) (exact_row m) refl refl (least (length m.path) short) refl refl refl refl refl refl where
      least : (n : ℕ) → n ≤ most → cut most (single n) ≡ single n
      least n low = let e : min n most ≡ n = omega arith in rw e refl

imported_exact : (net : NetValue) (prefix : PrefixValue) (to : End) (x : Route) → IsNet net → to.router < length net.routers → HasWords (exact_row x) → IsWithin (longest net) (map_gives net to.router to.import prefix x) →
    imported net prefix to (exact_row x) ≡ exact_or_bottom (map_gives net to.router to.import prefix x)
unfolding imported
imported_exact net prefix to x valid inside w short =
    ap (cut_row (longest net)) (map_exact net to.router to.import prefix x valid inside w.has) ∙
    cut_exact (longest net) (map_gives net to.router to.import prefix x) (given_masked net to.router to.import prefix x valid inside w) short

-- ---- from end to end

-- what comes from one end to the other
abbrev pub comes : NetValue → PrefixValue → Arc → End → End → Route → Option Route
comes net prefix arc from to t = option_and_then (λ s. takes net prefix arc to s) (sends net prefix from t)

learned_same : (arc : Arc) (o : Option Route) → exact_or_bottom o ≡ exact_or_bottom (option_map (learned_over arc) o)
learned_same arc None = refl
learned_same arc (Some m) = refl

learned_within : (arc : Arc) (most : ℕ) (o : Option Route) → IsWithin most (option_map (learned_over arc) o) → IsWithin most o
learned_within arc most None short = short
learned_within arc most (Some m) short = short

-- the words of the row of what is sent
sent_words : (net : NetValue) (prefix : PrefixValue) (from : End) (t s : Route) → IsNet net → from.router < length net.routers → HasWords (exact_row (as_sent t)) → sends net prefix from t ≡ Some s → HasWords (exact_row s)
sent_words net prefix from t s valid inside w is =
    subst HasWords (exported_exact net prefix from t valid inside w ∙ ap exact_or_bottom is) (exported_words net prefix from (exact_row (as_sent t)) valid inside w)

pub between_exact : (net : NetValue) (prefix : PrefixValue) (arc : Arc) (from to : End) (t : Route) → IsNet net → from.router < length net.routers → to.router < length net.routers → HasWords (exact_row (as_sent t)) →
    IsWithin (longest net) (comes net prefix arc from to t) → between net prefix from to (exact_row (as_sent t)) ≡ exact_or_bottom (comes net prefix arc from to t)
between_exact net prefix arc from to t valid from_in to_in w short =
    ap (λ (row : Row). imported net prefix to (received to.router row)) (exported_exact net prefix from t valid from_in w) ∙ go (sends net prefix from t) refl short where
      low : to.router < 64
      low = let f = valid.few_routers in omega arith

      loop : (s : Route) → HasWords (exact_row s) → (b : Bool) → is_on to.router s.path ≡ b →
          IsWithin (longest net) (cond b None (option_map (learned_over arc) (map_gives net to.router to.import prefix (as_received s)))) →
          imported net prefix to (received to.router (exact_row s)) ≡ exact_or_bottom (cond b None (option_map (learned_over arc) (map_gives net to.router to.import prefix (as_received s))))
      loop s sw true e short = ap (imported net prefix to) (received_met to.router s e) ∙ imported_out net prefix to bottom refl
      loop s sw false e short =
          let same = received_exact to.router s low sw.may e in
          ap (imported net prefix to) same ∙
          imported_exact net prefix to (as_received s) valid to_in (subst HasWords same (received_words to.router (exact_row s) sw)) (learned_within arc (longest net) (map_gives net to.router to.import prefix (as_received s)) short) ∙
          learned_same arc (map_gives net to.router to.import prefix (as_received s))

      go : (o : Option Route) → sends net prefix from t ≡ o → IsWithin (longest net) (option_and_then (λ s. takes net prefix arc to s) o) →
          imported net prefix to (received to.router (exact_or_bottom o)) ≡ exact_or_bottom (option_and_then (λ s. takes net prefix arc to s) o)
      go None is short = ap (imported net prefix to) (received_none to.router low) ∙ imported_out net prefix to bottom refl
      go (Some s) is short = loop s (sent_words net prefix from t s valid from_in w is) (is_on to.router s.path) refl short

-- ---- where the receiver is not on the path

-- what is sent has the receiver on its path only where the route had
off_sent : (net : NetValue) (prefix : PrefixValue) (from to : End) (t m : Route) → IsNet net → from.router < length net.routers → to.router ≢ from.router → is_on to.router t.path ≡ false →
    map_gives net from.router from.export prefix (as_sent t) ≡ Some m → is_on to.router (sent_by from.router m).path ≡ false
off_sent net prefix from to t m valid inside apart off is = go (is_on to.router (sent_by from.router m).path) refl where
  behind : is_on to.router (from.router ∷ m.path) ≡ true → (to.router ≡ from.router) ⊎ (is_on to.router m.path ≡ true)
  behind e = grind (arith, nat_tests)

  go : (b : Bool) → is_on to.router (sent_by from.router m).path ≡ b → b ≡ false
  go false e = refl
  go true e = absurd (elim (behind e) [
    | inl same ↦ apart same
    | inr more ↦ elim (map_path net from.router from.export prefix (as_sent t) m to.router valid inside is more) [
      | inl same ↦ apart same
      | inr old ↦ (let a = old in let b = off in cc)
    ]
  ])

learned_some : (arc : Arc) (o : Option Route) → is_some o ≡ is_some (option_map (learned_over arc) o)
learned_some arc None = refl
learned_some arc (Some m) = refl

taken_some : (net : NetValue) (prefix : PrefixValue) (arc : Arc) (to : End) (s : Route) → is_on to.router s.path ≡ false → is_some (map_gives net to.router to.import prefix (as_received s)) ≡ is_some (takes net prefix arc to s)
taken_some net prefix arc to s off =
    learned_some arc (map_gives net to.router to.import prefix (as_received s)) ∙
    ap (λ (b : Bool). is_some (cond b None (option_map (learned_over arc) (map_gives net to.router to.import prefix (as_received s))))) (sym off)

pub passes_exact : (net : NetValue) (prefix : PrefixValue) (arc : Arc) (from to : End) (t : Route) → IsNet net → from.router < length net.routers → to.router < length net.routers → to.router ≢ from.router → HasWords (exact_row (as_sent t)) →
    is_on to.router t.path ≡ false → passes_between net prefix from to (exact_row (as_sent t)) ≡ is_some (comes net prefix arc from to t)
passes_exact net prefix arc from to t valid from_in to_in apart w off =
    ap (λ (b : Bool). b && surely_leaves net (exact_row (as_sent t)) && sure net from.router from.export prefix (exact_row (as_sent t)) && surely_taken)
    ((inhabited_is (exact_row (as_sent t))).1 (exact_inhabited (as_sent t) w.has)) ∙
    ap (λ (b : Bool). true && surely_leaves net (exact_row (as_sent t)) && b && surely_taken) (sure_exact net from.router from.export prefix (as_sent t) valid from_in w.has) ∙
    step (is_kept_home net t.communities) (map_gives net from.router from.export prefix (as_sent t)) refl refl where
      surely_taken : Bool
      surely_taken = sure net to.router to.import prefix (received_free to.router (exported net prefix from (exact_row (as_sent t))))

      low : to.router < 64
      low = let f = valid.few_routers in omega arith

      taken : (m : Route) → map_gives net from.router from.export prefix (as_sent t) ≡ Some m → sends net prefix from t ≡ Some (sent_by from.router m) → surely_taken ≡ is_some (takes net prefix arc to (sent_by from.router m))
      taken m is sent =
          let s = sent_by from.router m in
          let clear = off_sent net prefix from to t m valid from_in apart off is in
          let sw = sent_words net prefix from t s valid from_in w sent in
          let same = received_exact to.router s low sw.may clear in
          let begun : HasWords (exact_row (as_received s)) = subst HasWords same (received_words to.router (exact_row s) sw) in
          ap (λ (row : Row). sure net to.router to.import prefix (received_free to.router row)) (exported_exact net prefix from t valid from_in w ∙ ap exact_or_bottom sent) ∙
          ap (sure net to.router to.import prefix) (free_exact to.router s low sw.may clear) ∙
          sure_exact net to.router to.import prefix (as_received s) valid to_in begun.has ∙
          taken_some net prefix arc to s clear

      step : (h : Bool) (o : Option Route) → is_kept_home net t.communities ≡ h → map_gives net from.router from.export prefix (as_sent t) ≡ o →
          (true && not h && is_some o && surely_taken) ≡ is_some (option_and_then (λ s. takes net prefix arc to s) (cond h None (option_map (sent_by from.router) o)))
      step true o home is = refl
      step false None home is = refl
      step false (Some m) home is = taken m is (rw (home, is) refl)

inhabited_cut : (most : ℕ) (o : Option Route) → IsMasked o → inhabited (cut_row most (exact_or_bottom o)) ≡ is_some o
inhabited_cut most None small = ap inhabited (cut_out most bottom refl)
inhabited_cut most (Some m) small = (inhabited_is (cut_row most (exact_row m))).1 (cut_inhabited most (exact_row m) (exact_inhabited m small))

inhabited_imported : (net : NetValue) (prefix : PrefixValue) (to : End) (x : Route) → IsNet net → to.router < length net.routers → HasWords (exact_row x) → inhabited (imported net prefix to (exact_row x)) ≡ is_some (map_gives net to.router to.import prefix x)
unfolding imported
inhabited_imported net prefix to x valid inside w =
    ap (λ (row : Row). inhabited (cut_row (longest net) row)) (map_exact net to.router to.import prefix x valid inside w.has) ∙
    inhabited_cut (longest net) (map_gives net to.router to.import prefix x) (given_masked net to.router to.import prefix x valid inside w)

pub opens_exact : (net : NetValue) (prefix : PrefixValue) (arc : Arc) (from to : End) (t : Route) → IsNet net → from.router < length net.routers → to.router < length net.routers → to.router ≢ from.router → HasWords (exact_row (as_sent t)) →
    is_on to.router t.path ≡ false → inhabited (between_free net prefix from to (exact_row (as_sent t))) ≡ is_some (comes net prefix arc from to t)
opens_exact net prefix arc from to t valid from_in to_in apart w off =
    ap (λ (row : Row). inhabited (imported net prefix to (received_free to.router row))) (exported_exact net prefix from t valid from_in w) ∙
    step (is_kept_home net t.communities) (map_gives net from.router from.export prefix (as_sent t)) refl refl where
      low : to.router < 64
      low = let f = valid.few_routers in omega arith

      none : inhabited (imported net prefix to (received_free to.router bottom)) ≡ false
      none = ap inhabited (imported_out net prefix to (received_free to.router bottom) (free_none to.router))

      taken : (m : Route) → map_gives net from.router from.export prefix (as_sent t) ≡ Some m → sends net prefix from t ≡ Some (sent_by from.router m) →
          inhabited (imported net prefix to (received_free to.router (exact_row (sent_by from.router m)))) ≡ is_some (takes net prefix arc to (sent_by from.router m))
      taken m is sent =
          let s = sent_by from.router m in
          let clear = off_sent net prefix from to t m valid from_in apart off is in
          let sw = sent_words net prefix from t s valid from_in w sent in
          let same = received_exact to.router s low sw.may clear in
          let begun : HasWords (exact_row (as_received s)) = subst HasWords same (received_words to.router (exact_row s) sw) in
          ap (λ (row : Row). inhabited (imported net prefix to row)) (free_exact to.router s low sw.may clear) ∙
          inhabited_imported net prefix to (as_received s) valid to_in begun ∙
          taken_some net prefix arc to s clear

      step : (h : Bool) (o : Option Route) → is_kept_home net t.communities ≡ h → map_gives net from.router from.export prefix (as_sent t) ≡ o →
          inhabited (imported net prefix to (received_free to.router (exact_or_bottom (cond h None (option_map (sent_by from.router) o))))) ≡
          is_some (option_and_then (λ s. takes net prefix arc to s) (cond h None (option_map (sent_by from.router) o)))
      step true o home is = none
      step false None home is = none
      step false (Some m) home is = taken m is (rw (home, is) refl)
