-- The steps of a transfer on a row against those of a carried route: what is sent, begun with and taken in fits, and
-- where a policy is sure, something is.
use Rattle.std.proofs.Common.{ℕ, ◌≡◌, ◌≢◌, ◌<◌, ◌≤◌, ◌==◌, ◌+◌, ◌^◌, ◌&&◌, ◌||◌, ◌⊎◌, inl, inr, nat_lt, Bool, true, false, not, List, ◌∷◌, length, Option, Some, None, option_map, get_or, bit_or, arith, ap, sym, subst, ◌∙◌, refl, cond}
use Rattle.std.specs.List.{Contains, position_or_len}
use Rattle.std.specs.Option.{option_map_or}
use Rattle.std.proofs.lemmas.Bool.Decides.{nat_tests}
use Rattle.std.proofs.lemmas.List.Sums.{fails_before_first}
use Rattle.std.proofs.lemmas.Nat.{or_lt, pow_below}
use Rattle.net_types.specs.Numbering.{community_number}
use Rattle.net_types.specs.Routes.{is_on, sent_med}
use Rattle.net_types.specs.declared.arcs.Arc.{Arc}
use Rattle.net_types.specs.declared.network.End.{End}
use Rattle.net_types.specs.declared.routes.Route.{Route}
use Rattle.net_types.specs.NetFacts.{IsNet, no_advertise, no_export}
use Rattle.net_types.specs.NetValue.{NetValue}
use Rattle.net_types.specs.PrefixValue.{PrefixValue}
use Rattle.net_types.specs.Sets.{has, IsPart}
use Rattle.abstract_route.specs.declared.rows.Row.{Row}
use Rattle.abstract_route.specs.Rows.{IsInhabited, IsRow, bottom, inhabited, single}
use Rattle.abstract_route.specs.Fits.{Fits, IsIn, LacksRest}
use Rattle.abstract_route.proofs.FitLemmas.{fits_inhabited, inhabited_is}
use Rattle.concrete_algebra.specs.Carrying.{as_received, holds_value, is_kept_home, learned_over, sent_by}
use Rattle.concrete_algebra.specs.Maps.{map_gives}
use Rattle.abstract_maps.specs.AbstractMap.{abstract_map, sure}
use Rattle.abstract_maps.specs.Transfer.{between, cut_row, exported, imported, less, longest, may_leave, passes_between, received, received_free, row_sent_by, surely_leaves}
use Rattle.abstract_maps.proofs.SetWords.{below_or_not, has_minus, has_single, minus_less, small_above}
use Rattle.abstract_maps.proofs.RowSetLemmas.{lacks_of_whole, may_stays, must_passes}
use Rattle.abstract_maps.proofs.WordLemmas.{HasWords, bottom_words, words_of}
use Rattle.abstract_maps.proofs.MapLemmas.{map_path, map_sound, policy_words, some_same, sure_gives}

-- ---- the communities that keep a route home

-- a community of the network has a number below 64
pub record IsNumbered (net : NetValue) (value : ℕ) : Type 0 where
  pub number : ℕ
  pub is : community_number net value ≡ Some number
  pub low : number < 64

pub numbered : (net : NetValue) (value : ℕ) → IsNet net → Contains net.communities value → IsNumbered net value
numbered net value valid there = elim (below_or_not (position_or_len (λ c. c == value) net.communities) (length net.communities)) [
  | inl found ↦ record {
    number = position_or_len (λ c. c == value) net.communities;
    is = (let t : nat_lt (position_or_len (λ c. c == value) net.communities) (length net.communities) ≡ true = grind (arith, nat_tests) in rw t refl);
    low = (let f = valid.few_communities in omega arith);
  }
  | inr past ↦ absurd (
      let inside = there.1 in
      let off : (get_or net.communities there.0 value == value) ≡ false = fails_before_first (λ c. c == value) net.communities there.0 value (omega arith) in
      let same : get_or net.communities there.0 value ≡ value = there.2 in
      grind (arith, nat_tests))
]

pub holds_at : (net : NetValue) (value set : ℕ) (n : IsNumbered net value) → holds_value net value set ≡ has set n.number
holds_at net value set n = ap (λ (o : Option ℕ). option_map_or (λ number. has set number) o false) n.is

-- what is not kept home may leave with each row that it fits
leaves : (net : NetValue) (c : ℕ) (row : Row) → IsNet net → LacksRest c row.lacks → is_kept_home net c ≡ false → may_leave net row ≡ true
leaves net c row valid lacks free =
    let a = numbered net no_export valid valid.no_export in
    let b = numbered net no_advertise valid valid.no_advertise in
    step (holds_value net no_export c) (holds_value net no_advertise c) (holds_value net no_export row.lacks) (holds_value net no_advertise row.lacks)
    (λ off. holds_at net no_export row.lacks a ∙ lacks a.number a.low (sym (holds_at net no_export c a) ∙ off))
    (λ off. holds_at net no_advertise row.lacks b ∙ lacks b.number b.low (sym (holds_at net no_advertise c b) ∙ off)) free where
      step : (h1 h2 l1 l2 : Bool) → (h1 ≡ false → l1 ≡ true) → (h2 ≡ false → l2 ≡ true) → (h1 || h2) ≡ false → (l1 && l2) ≡ true
      step true h2 l1 l2 f g e = absurd (cc)
      step false true l1 l2 f g e = absurd (cc)
      step false false l1 l2 f g e = let p = f refl in let q = g refl in rw (p, q) refl

-- a row that surely leaves
pub surely_may_leave : (net : NetValue) (row : Row) → IsNet net → IsInhabited row → surely_leaves net row ≡ true → may_leave net row ≡ true
surely_may_leave net row valid i s = leaves net row.has row valid (lacks_of_whole row.has row.lacks i.communities) (unnot (is_kept_home net row.has) s) where
  unnot : (b : Bool) → not b ≡ true → b ≡ false
  unnot true e = absurd (cc)
  unnot false e = refl

-- a route of a row that surely leaves
leaves_surely : (net : NetValue) (t : Route) (row : Row) → IsNet net → Fits t row → surely_leaves net row ≡ true → is_kept_home net t.communities ≡ false
leaves_surely net t row valid f s =
    let a = numbered net no_export valid valid.no_export in
    let b = numbered net no_advertise valid valid.no_advertise in
    step (holds_value net no_export t.communities) (holds_value net no_advertise t.communities) (holds_value net no_export row.has) (holds_value net no_advertise row.has)
    (λ on. holds_at net no_export row.has a ∙ f.held.members a.number (sym (holds_at net no_export t.communities a) ∙ on))
    (λ on. holds_at net no_advertise row.has b ∙ f.held.members b.number (sym (holds_at net no_advertise t.communities b) ∙ on)) s where
      step : (c1 c2 h1 h2 : Bool) → (c1 ≡ true → h1 ≡ true) → (c2 ≡ true → h2 ≡ true) → not (h1 || h2) ≡ true → (c1 || c2) ≡ false
      step true c2 h1 h2 f g e = absurd (let p = f refl in let k : not (true || h2) ≡ true = (rw p at e) in cc)
      step false true h1 h2 f g e = absurd (let p = g refl in let k : not (h1 || true) ≡ true = (rw p at e) in both h1 k) where
        both : (h : Bool) → not (h || true) ≡ true → ⊥
        both true e = cc
        both false e = cc
      step false false h1 h2 f g e = refl

pub may_leave_grows : (net : NetValue) (a b : Row) → IsNet net → IsPart a.lacks b.lacks → may_leave net a ≡ true → may_leave net b ≡ true
may_leave_grows net a b valid p e =
    let m = numbered net no_export valid valid.no_export in
    let n = numbered net no_advertise valid valid.no_advertise in
    step (holds_value net no_export a.lacks) (holds_value net no_advertise a.lacks) (holds_value net no_export b.lacks) (holds_value net no_advertise b.lacks)
    (λ on. holds_at net no_export b.lacks m ∙ p.members m.number (sym (holds_at net no_export a.lacks m) ∙ on))
    (λ on. holds_at net no_advertise b.lacks n ∙ p.members n.number (sym (holds_at net no_advertise a.lacks n) ∙ on)) e where
      step : (c1 c2 h1 h2 : Bool) → (c1 ≡ true → h1 ≡ true) → (c2 ≡ true → h2 ≡ true) → (c1 && c2) ≡ true → (h1 && h2) ≡ true
      step true true h1 h2 f g e = let p = f refl in let q = g refl in rw (p, q) refl
      step true false h1 h2 f g e = absurd (cc)
      step false c2 h1 h2 f g e = absurd (cc)

-- ---- what the sender announces

sent_fits : (v : ℕ) (t : Route) (row : Row) → Fits t row → Fits (sent_by v t) (row_sent_by v row)
unfolding row_sent_by
sent_fits v t row f = let e = (inhabited_is row).1 (fits_inhabited t row f) in rw e (record {
  weight = f.weight;
  preference = f.preference;
  length = (let q = f.length in (omega arith, omega arith));
  origin = f.origin;
  med = f.med;
  held = f.held;
  lacked = f.lacked;
  may = may_stays 1 v row.may t.path f.may;
  must = must_passes 1 v row.must t.path f.must;
})

-- the route as its export policy sees it
abbrev pub as_sent : Route → Route
as_sent t = record t { med = sent_med t.source t.med }

-- what an end sends, as a term over its parts
abbrev pub sends : NetValue → PrefixValue → End → Route → Option Route
sends net prefix from t = cond (is_kept_home net t.communities) None (option_map (sent_by from.router) (map_gives net from.router from.export prefix (as_sent t)))

exported_sound : (net : NetValue) (prefix : PrefixValue) (from : End) (row : Row) (t s : Route) → IsNet net → from.router < length net.routers → IsIn t row → sends net prefix from t ≡ Some s → Fits s (exported net prefix from row)
unfolding exported
exported_sound net prefix from row t s valid inside i g = home (is_kept_home net t.communities) refl g where
  mapped : (o : Option Route) → map_gives net from.router from.export prefix (as_sent t) ≡ o → option_map (sent_by from.router) o ≡ Some s → Fits s (row_sent_by from.router (abstract_map net from.router from.export prefix row))
  mapped None is h = absurd (cc)
  mapped (Some m) is h = subst (λ (x : Route). Fits x (row_sent_by from.router (abstract_map net from.router from.export prefix row))) (some_same (sent_by from.router m) s h)
      (sent_fits from.router m (abstract_map net from.router from.export prefix row) (map_sound net from.router from.export prefix row (as_sent t) m valid inside i is))

  home : (b : Bool) → is_kept_home net t.communities ≡ b → cond b None (option_map (sent_by from.router) (map_gives net from.router from.export prefix (as_sent t))) ≡ Some s →
      Fits s (cond (may_leave net row) (row_sent_by from.router (abstract_map net from.router from.export prefix row)) bottom)
  home true e h = absurd (cc)
  home false e h = let f = leaves net t.communities row valid i.lacked e in rw f (mapped (map_gives net from.router from.export prefix (as_sent t)) refl h)

sent_words : (v : ℕ) (row : Row) → v < 64 → HasWords row → HasWords (row_sent_by v row)
unfolding row_sent_by
sent_words v row low w = go (inhabited row) where
  go : (b : Bool) → HasWords (cond b (record row { length = record { low = row.length.low + 1; high = row.length.high + 1 }; may = bit_or row.may (2 ^ v); must = bit_or row.must (2 ^ v) }) bottom)
  go true = record {
    weight = w.weight;
    preference = w.preference;
    origin = w.origin;
    med = w.med;
    has = w.has;
    lacks = w.lacks;
    may = or_lt 64 row.may (2 ^ v) w.may (pow_below v 64 low);
    must = or_lt 64 row.must (2 ^ v) w.must (pow_below v 64 low);
  }
  go false = bottom_words

pub exported_words : (net : NetValue) (prefix : PrefixValue) (from : End) (row : Row) → IsNet net → from.router < length net.routers → HasWords row → HasWords (exported net prefix from row)
unfolding exported
exported_words net prefix from row valid inside w = go (may_leave net row) where
  go : (b : Bool) → HasWords (cond b (row_sent_by from.router (abstract_map net from.router from.export prefix row)) bottom)
  go true = sent_words from.router (abstract_map net from.router from.export prefix row) (let f = valid.few_routers in omega arith) (policy_words net from.router from.export prefix row valid inside w)
  go false = bottom_words

-- ---- what the receiver begins with

-- a router on the path that is not the receiver stays in the set without it
stays_less : (u may x : ℕ) (path : List ℕ) → u < 64 → x < 64 → is_on u path ≡ false → is_on x path ≡ true → has may x ≡ true → has (less may u) x ≡ true
stays_less u may x path low small off on m =
    has_minus may (2 ^ u) x (pow_below u 64 low) small ∙
    step (has may x) (has (2 ^ u) x) (x == u) (has_single u x) m (differs (x == u) refl) where
      differs : (b : Bool) → (x == u) ≡ b → b ≡ false
      differs true e = absurd (let f : x ≡ u = grind (arith, nat_tests) in let g : is_on u path ≡ true = rw (← f) on in cc)
      differs false e = refl

      step : (h s b : Bool) → s ≡ b → h ≡ true → b ≡ false → (h && not s) ≡ true
      step h s b e f g = rw (e, f, g) refl

small_on : (t : Route) (row : Row) (x : ℕ) → row.may < 2 ^ 64 → Fits t row → is_on x t.path ≡ true → x < 64
small_on t row x small f on = elim (below_or_not x 64) [
  | inl low ↦ low
  | inr high ↦ absurd (let m = f.may x on in let e = small_above row.may x small high in cc)
]

received_sound : (u : ℕ) (t : Route) (row : Row) → u < 64 → row.may < 2 ^ 64 → Fits t row → is_on u t.path ≡ false → Fits (as_received t) (received u row)
unfolding received
received_sound u t row low small f off = go (has row.must u) refl where
  go : (b : Bool) → has row.must u ≡ b → Fits (as_received t) (cond b bottom (record row { weight = single 0; preference = single 100; may = less row.may u }))
  go true e = absurd (let m = f.must u e in cc)
  go false e = record {
    weight = (omega arith, omega arith);
    preference = (omega arith, omega arith);
    length = f.length;
    origin = f.origin;
    med = f.med;
    held = f.held;
    lacked = f.lacked;
    may = λ x on. stays_less u row.may x t.path low (small_on t row x small f on) off on (f.may x on);
    must = f.must;
  }

received_free_sound : (u : ℕ) (t : Route) (row : Row) → u < 64 → row.may < 2 ^ 64 → Fits t row → is_on u t.path ≡ false → Fits (as_received t) (received_free u row)
unfolding received_free
received_free_sound u t row low small f off = record {
  weight = (omega arith, omega arith);
  preference = (omega arith, omega arith);
  length = f.length;
  origin = f.origin;
  med = f.med;
  held = f.held;
  lacked = f.lacked;
  may = λ x on. stays_less u row.may x t.path low (small_on t row x small f on) off on (f.may x on);
  must = λ x m. f.must x ((minus_less row.must (2 ^ u)).members x m);
}

-- ---- what the receiver takes in

cut_fits : (most : ℕ) (t : Route) (row : Row) → Fits t row → length t.path ≤ most → Fits t (cut_row most row)
unfolding cut_row
cut_fits most t row f short = let e = (inhabited_is row).1 (fits_inhabited t row f) in rw e (record {
  weight = f.weight;
  preference = f.preference;
  origin = f.origin;
  med = f.med;
  held = f.held;
  lacked = f.lacked;
  may = f.may;
  must = f.must;
  length = (let q = f.length in (omega arith, omega arith));
})

-- where a route comes from is nothing that a row speaks of
learned_fits : (arc : Arc) (t : Route) (row : Row) → Fits t row → Fits (learned_over arc t) row
learned_fits arc t row f = record {
  weight = f.weight;
  preference = f.preference;
  length = f.length;
  origin = f.origin;
  med = f.med;
  held = f.held;
  lacked = f.lacked;
  may = f.may;
  must = f.must;
}

imported_sound : (net : NetValue) (prefix : PrefixValue) (to : End) (row : Row) (t m : Route) → IsNet net → to.router < length net.routers → Fits t row → map_gives net to.router to.import prefix t ≡ Some m → length m.path ≤ longest net → Fits m (imported net prefix to row)
unfolding imported
imported_sound net prefix to row t m valid inside f gives short =
    cut_fits (longest net) m (abstract_map net to.router to.import prefix row) (map_sound net to.router to.import prefix row t m valid inside f gives) short

-- what an end takes in, as a term over its parts
abbrev pub takes : NetValue → PrefixValue → Arc → End → Route → Option Route
takes net prefix arc to s = cond (is_on to.router s.path) None (option_map (learned_over arc) (map_gives net to.router to.import prefix (as_received s)))

-- what is taken in is learned, and its MED is carried no further
pub learned_med : (net : NetValue) (prefix : PrefixValue) (arc : Arc) (to : End) (s r : Route) → takes net prefix arc to s ≡ Some r → sent_med r.source r.med ≡ 0
learned_med net prefix arc to s r taken = loop (is_on to.router s.path) taken where
  mapped : (o : Option Route) → option_map (learned_over arc) o ≡ Some r → sent_med r.source r.med ≡ 0
  mapped None h = absurd (cc)
  mapped (Some m) h = sym (ap (λ (x : Route). sent_med x.source x.med) (some_same (learned_over arc m) r h))

  loop : (b : Bool) → cond b None (option_map (learned_over arc) (map_gives net to.router to.import prefix (as_received s))) ≡ Some r → sent_med r.source r.med ≡ 0
  loop true h = absurd (cc)
  loop false h = mapped (map_gives net to.router to.import prefix (as_received s)) h

pub between_sound : (net : NetValue) (prefix : PrefixValue) (arc : Arc) (from to : End) (row : Row) (t s r : Route) → IsNet net → from.router < length net.routers → to.router < length net.routers → IsRow row → IsIn t row → sends net prefix from t ≡ Some s → takes net prefix arc to s ≡ Some r → length r.path ≤ longest net → Fits r (between net prefix from to row)
between_sound net prefix arc from to row t s r valid from_in to_in words i sent taken short = loop (is_on to.router s.path) refl taken where
  low : to.router < 64
  low = let f = valid.few_routers in omega arith

  fits : Fits s (exported net prefix from row)
  fits = exported_sound net prefix from row t s valid from_in i sent

  small : HasWords (exported net prefix from row)
  small = exported_words net prefix from row valid from_in (words_of row words)

  mapped : is_on to.router s.path ≡ false → (o : Option Route) → map_gives net to.router to.import prefix (as_received s) ≡ o → option_map (learned_over arc) o ≡ Some r → Fits r (between net prefix from to row)
  mapped off None is h = absurd (cc)
  mapped off (Some m) is h =
      let same = some_same (learned_over arc m) r h in
      subst (λ (x : Route). Fits x (between net prefix from to row)) same
      (learned_fits arc m (between net prefix from to row)
      (imported_sound net prefix to (received to.router (exported net prefix from row)) (as_received s) m valid to_in
      (received_sound to.router s (exported net prefix from row) low small.may fits off) is
      (let e : learned_over arc m ≡ r = same in let f : length m.path ≡ length r.path = ap (λ (x : Route). length x.path) e in omega arith)))

  loop : (b : Bool) → is_on to.router s.path ≡ b → cond b None (option_map (learned_over arc) (map_gives net to.router to.import prefix (as_received s))) ≡ Some r → Fits r (between net prefix from to row)
  loop true e h = absurd (cc)
  loop false e h = mapped e (map_gives net to.router to.import prefix (as_received s)) refl h

-- ---- where both policies are sure

-- something is sent and taken in, or the receiver is on the path that is sent
pub data Surely (net : NetValue) (prefix : PrefixValue) (arc : Arc) (from to : End) (t : Route) : Type 0 where
  surely_taken : (s r : Route) → sends net prefix from t ≡ Some s → takes net prefix arc to s ≡ Some r → Surely net prefix arc from to t
  surely_met : (is_on to.router t.path ≡ true) → Surely net prefix arc from to t

-- the parts of a test of four
four : (a b c d : Bool) → (a && b && c && d) ≡ true → (a ≡ true) × (b ≡ true) × (c ≡ true) × (d ≡ true)
four true true true true e = (refl, refl, refl, refl)
four true true true false e = absurd (cc)
four true true false d e = absurd (cc)
four true false c d e = absurd (cc)
four false b c d e = absurd (cc)

pub record PassesParts (net : NetValue) (prefix : PrefixValue) (from to : End) (row : Row) : Type 0 where
  pub inhabited : IsInhabited row
  pub leaves : surely_leaves net row ≡ true
  pub export_sure : sure net from.router from.export prefix row ≡ true
  pub import_sure : sure net to.router to.import prefix (received_free to.router (exported net prefix from row)) ≡ true

pub passes_parts : (net : NetValue) (prefix : PrefixValue) (from to : End) (row : Row) → passes_between net prefix from to row ≡ true → PassesParts net prefix from to row
passes_parts net prefix from to row p =
    let q = four (inhabited row) (surely_leaves net row) (sure net from.router from.export prefix row) (sure net to.router to.import prefix (received_free to.router (exported net prefix from row))) p in
    record { inhabited = (inhabited_is row).0 q.0; leaves = q.1; export_sure = q.2; import_sure = q.3 }

pub between_sure : (net : NetValue) (prefix : PrefixValue) (arc : Arc) (from to : End) (row : Row) (t : Route) → IsNet net → from.router < length net.routers → to.router < length net.routers → to.router ≢ from.router → IsRow row → IsIn t row → passes_between net prefix from to row ≡ true → Surely net prefix arc from to t
between_sure net prefix arc from to row t valid from_in to_in apart words i p = begin (passes_parts net prefix from to row p) where
  low : to.router < 64
  low = let f = valid.few_routers in omega arith

  small : HasWords (exported net prefix from row)
  small = exported_words net prefix from row valid from_in (words_of row words)

  on_sent : (m : Route) → map_gives net from.router from.export prefix (as_sent t) ≡ Some m → is_on to.router (sent_by from.router m).path ≡ true → is_on to.router t.path ≡ true
  on_sent m is on = elim (behind on) [
    | inl same ↦ absurd (apart same)
    | inr more ↦ elim (map_path net from.router from.export prefix (as_sent t) m to.router valid from_in is more) [
      | inl same ↦ absurd (apart same)
      | inr old ↦ old
    ]
  ] where
    behind : is_on to.router (from.router ∷ m.path) ≡ true → (to.router ≡ from.router) ⊎ (is_on to.router m.path ≡ true)
    behind e = grind (arith, nat_tests)

  take : (s : Route) → sends net prefix from t ≡ Some s → (is_on to.router s.path ≡ true → is_on to.router t.path ≡ true) →
      sure net to.router to.import prefix (received_free to.router (exported net prefix from row)) ≡ true → Surely net prefix arc from to t
  take s sent back sure_import = loop (is_on to.router s.path) refl where
    loop : (b : Bool) → is_on to.router s.path ≡ b → Surely net prefix arc from to t
    loop true e = surely_met (back e)
    loop false e =
        let g = sure_gives net to.router to.import prefix (received_free to.router (exported net prefix from row)) (as_received s) valid to_in
        (received_free_sound to.router s (exported net prefix from row) low small.may (exported_sound net prefix from row t s valid from_in i sent) e) sure_import in
        surely_taken s (learned_over arc g.0) sent (let a = e in let b = g.1 in rw (a, b) refl)

  begin : PassesParts net prefix from to row → Surely net prefix arc from to t
  begin parts =
      let g = sure_gives net from.router from.export prefix row (as_sent t) valid from_in i parts.export_sure in
      let home = leaves_surely net (as_sent t) row valid i parts.leaves in
      take (sent_by from.router g.0) (let a = home in let b = g.1 in rw (a, b) refl) (on_sent g.0 g.1) parts.import_sure
