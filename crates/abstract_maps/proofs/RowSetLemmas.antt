-- The sets of an entry on a row against its sets on a route: what fits still fits, rows grow together, an inhabited
-- row stays so, and the row of one route becomes the row of what becomes of the route.
use Rattle.std.proofs.Common.{ℕ, zero, suc, ◌≡◌, ◌<◌, ◌≤◌, ◌==◌, ◌+◌, ◌^◌, ◌&&◌, ◌||◌, ◌⊎◌, inl, inr, Bool, true, false, not, List, ◌++◌, length, replicate, Option, Some, None, unwrap_or, bit_or, arith, ap, sym, subst, ◌∙◌, refl, cond}
use Rattle.std.specs.Int.{bit_not, w64}
use Rattle.std.proofs.lemmas.Bool.Decides.{nat_tests}
use Rattle.std.proofs.lemmas.Nat.{or_lt, and_le_l, pow_below}
use Rattle.net_types.specs.Routes.{is_on}
use Rattle.net_types.specs.declared.config.Origin.{Origin}
use Rattle.net_types.specs.declared.network.NetSets.{NetSets}
use Rattle.net_types.specs.declared.network.NetSetCommunity.{NetSetCommunity}
use Rattle.net_types.specs.declared.network.NetSetCommunity.TheVariants.{Keep, Replace, Add, Clear}
use Rattle.net_types.specs.declared.network.Router.{Router}
use Rattle.net_types.specs.declared.routes.Route.{Route}
use Rattle.net_types.specs.Better.{origin_rank}
use Rattle.net_types.specs.NetFacts.{IsNetCommunitySet, IsNetSets, IsRouter}
use Rattle.net_types.specs.Sets.{has, IsPart}
use Rattle.net_types.proofs.SetLemmas.{has_union, has_common, same_sets}
use Rattle.abstract_route.specs.declared.rows.Row.{Row}
use Rattle.abstract_route.specs.declared.rows.Range.{Range}
use Rattle.abstract_route.specs.Rows.{IsBelow, IsInhabited, IsSome, Lies, single}
use Rattle.abstract_route.specs.Fits.{Fits, Holds, LacksRest, PassesAll, StaysIn, exact_row, routers_of}
use Rattle.abstract_route.proofs.FitLemmas.{has-routers_of}
use Rattle.abstract_route.proofs.RowLemmas.{part_refl, row_same}
use Rattle.concrete_algebra.specs.Maps.{community_entries, deleted_by, under_sets, with_set, without_deleted}
use Rattle.abstract_maps.specs.OneRoute.{IsKnown}
use Rattle.abstract_maps.specs.RowSets.{lacked_after, lengthened, minus, replaced, replaced_origin, row_under_sets, with_deleted, with_router}
use Rattle.abstract_maps.proofs.SetWords.{below_or_not, deleted_small, has_full, has_minus, has_not, has_single, masks_at, minus_part, not_above, small_above, union_part}

-- ---- numbers and origin

replaced_holds : (o : Option ℕ) (r : Range) (n : ℕ) → Holds r n → Holds (replaced o r) (unwrap_or o n)
replaced_holds None r n h = h
replaced_holds (Some m) r n h = (omega arith, omega arith)

replaced_lies : (o : Option ℕ) (a b : Range) → Lies a b → Lies (replaced o a) (replaced o b)
replaced_lies None a b l = l
replaced_lies (Some m) a b l = (omega arith, omega arith)

replaced_some : (o : Option ℕ) (r : Range) → IsSome r → IsSome (replaced o r)
replaced_some None r s = s
replaced_some (Some m) r s = omega arith

replaced_single : (o : Option ℕ) (n : ℕ) → replaced o (single n) ≡ single (unwrap_or o n)
replaced_single None n = refl
replaced_single (Some m) n = refl

origin_holds : (o : Option Origin) (r : Range) (n : Origin) → Holds r (origin_rank n) → Holds (replaced_origin o r) (origin_rank (unwrap_or o n))
origin_holds None r n h = h
origin_holds (Some m) r n h = (omega arith, omega arith)

origin_lies : (o : Option Origin) (a b : Range) → Lies a b → Lies (replaced_origin o a) (replaced_origin o b)
origin_lies None a b l = l
origin_lies (Some m) a b l = (omega arith, omega arith)

origin_some : (o : Option Origin) (r : Range) → IsSome r → IsSome (replaced_origin o r)
origin_some None r s = s
origin_some (Some m) r s = omega arith

origin_single : (o : Option Origin) (n : Origin) → replaced_origin o (single (origin_rank n)) ≡ single (origin_rank (unwrap_or o n))
origin_single None n = refl
origin_single (Some m) n = refl

-- ---- the path

pub front_cases : (x u k : ℕ) (path : List ℕ) → is_on x (replicate k u ++ path) ≡ true → (x ≡ u) ⊎ (is_on x path ≡ true)
front_cases x u zero path on = inr on
front_cases x u (suc k) path on = let i = front_cases x u k path in grind (arith, nat_tests)

front_behind : (x u k : ℕ) (path : List ℕ) → is_on x path ≡ true → is_on x (replicate k u ++ path) ≡ true
front_behind x u zero path on = on
front_behind x u (suc k) path on = let i = front_behind x u k path on in grind (arith, nat_tests)

front_first : (u k : ℕ) (path : List ℕ) → 0 < k → is_on u (replicate k u ++ path) ≡ true
front_first u zero path h = absurd (omega arith)
front_first u (suc k) path h = grind (arith, nat_tests)

pub length-front : (k u : ℕ) (path : List ℕ) → length (replicate k u ++ path) ≡ length path + k
length-front zero u path = omega arith
length-front (suc k) u path = let i = length-front k u path in omega arith

-- a number is 0 or greater
some_or_none : (k : ℕ) → (k ≡ 0) ⊎ (0 < k)
some_or_none k = grind arith

-- what is in a set with one more router
data Added (k u set x : ℕ) : Type 0 where
  added_none : k ≡ 0 → has (with_router k u set) x ≡ has set x → Added k u set x
  added_one : 0 < k → has (with_router k u set) x ≡ (has set x || (x == u)) → Added k u set x

added : (k u set x : ℕ) → Added k u set x
added k u set x = elim (some_or_none k) [
  | inl none ↦ added_none none (rw none refl)
  | inr some ↦ added_one some (with_some (k == 0) (let s = some in grind (arith, nat_tests)))
] where
  with_some : (b : Bool) → b ≡ false → has (cond b set (bit_or set (2 ^ u))) x ≡ (has set x || (x == u))
  with_some true e = absurd (cc)
  with_some false e = has_union set (2 ^ u) x ∙ ap (λ (b : Bool). has set x || b) (has_single u x)

pub may_stays : (k u may : ℕ) (path : List ℕ) → StaysIn path may → StaysIn (replicate k u ++ path) (with_router k u may)
may_stays k u may path s = λ x on. elim (added k u may x) [
  | added_none none e ↦ e ∙ s x (rw none at on)
  | added_one some e ↦ let c = front_cases x u k path on in let m = s x in grind (arith, nat_tests)
]

pub must_passes : (k u must : ℕ) (path : List ℕ) → PassesAll path must → PassesAll (replicate k u ++ path) (with_router k u must)
must_passes k u must path p = λ x m. elim (added k u must x) [
  | added_none none e ↦ front_behind x u k path (p x (sym e ∙ m))
  | added_one some e ↦ elim (either x (sym e ∙ m)) [
    | inl old ↦ front_behind x u k path (p x old)
    | inr new ↦ rw new (front_first u k path some)
  ]
] where
  either : (x : ℕ) → (has must x || (x == u)) ≡ true → (has must x ≡ true) ⊎ (x ≡ u)
  either x e = grind (arith, nat_tests)

pub router_part : (k u a b : ℕ) → IsPart a b → IsPart (with_router k u a) (with_router k u b)
router_part k u a b p = go (k == 0) where
  go : (none : Bool) → IsPart (cond none a (bit_or a (2 ^ u))) (cond none b (bit_or b (2 ^ u)))
  go true = p
  go false = union_part a b (2 ^ u) p

pub router_small : (k u set : ℕ) → u < 64 → set < 2 ^ 64 → with_router k u set < 2 ^ 64
router_small k u set low small = go (k == 0) where
  go : (none : Bool) → cond none set (bit_or set (2 ^ u)) < 2 ^ 64
  go true = small
  go false = or_lt 64 set (2 ^ u) small (pow_below u 64 low)

pub routers-front : (k u : ℕ) (path : List ℕ) → with_router k u (routers_of path) ≡ routers_of (replicate k u ++ path)
routers-front k u path = same_sets (with_router k u (routers_of path)) (routers_of (replicate k u ++ path)) (λ x. elim (added k u (routers_of path) x) [
  | added_none none e ↦ e ∙ (rw none refl)
  | added_one some e ↦ e ∙ ap (λ (b : Bool). b || (x == u)) (has-routers_of path x) ∙ front_on x some ∙ sym (has-routers_of (replicate k u ++ path) x)
]) where
  front_on : (x : ℕ) → 0 < k → (is_on x path || (x == u)) ≡ is_on x (replicate k u ++ path)
  front_on x some = same (is_on x path) (x == u) (is_on x (replicate k u ++ path)) (front_behind x u k path) (λ e. let f : x ≡ u = grind (arith, nat_tests) in rw f (front_first u k path some)) (λ on. let c = front_cases x u k path on in grind (arith, nat_tests)) where
    same : (p q r : Bool) → (p ≡ true → r ≡ true) → (q ≡ true → r ≡ true) → (r ≡ true → (p || q) ≡ true) → (p || q) ≡ r
    same true q r f g h = sym (f refl)
    same false true r f g h = sym (g refl)
    same false false true f g h = h refl
    same false false false f g h = refl

-- ---- communities: first those of a list are deleted

delete_part : (router : Router) (at : Option ℕ) (a b : ℕ) → IsPart a b → IsPart (without_deleted router at a) (without_deleted router at b)
delete_part router None a b p = p
delete_part router (Some position) a b p = minus_part a b (deleted_by (community_entries router position)) p

deleted_part : (router : Router) (at : Option ℕ) (a b : ℕ) → IsPart a b → IsPart (with_deleted router at a) (with_deleted router at b)
deleted_part router None a b p = p
deleted_part router (Some position) a b p = union_part a b (deleted_by (community_entries router position)) p

-- each number below 64 is held or lacked
abbrev pub AreWhole : ℕ → ℕ → Type 0
AreWhole h l = (x : ℕ) → x < 64 → (has h x || has l x) ≡ true

delete_whole : (count : ℕ) (router : Router) (at : Option ℕ) (h l : ℕ) → IsRouter count router → AreWhole h l → AreWhole (without_deleted router at h) (with_deleted router at l)
delete_whole count router None h l ok w = w
delete_whole count router (Some position) h l ok w = λ x low.
    let d = deleted_by (community_entries router position) in
    let small : d < 2 ^ 64 = deleted_small count (community_entries router position) (masks_at count router position ok) in
    step (has h x) (has l x) (has d x) (has (minus h d) x) (has (bit_or l d) x) (has_minus h d x small low) (has_union l d x) (w x low) where
      step : (h l d m u : Bool) → m ≡ (h && not d) → u ≡ (l || d) → (h || l) ≡ true → (m || u) ≡ true
      step true l true m u e f w = rw (e, f) (or_true l) where
        or_true : (b : Bool) → (false || (b || true)) ≡ true
        or_true true = refl
        or_true false = refl
      step true l false m u e f w = rw e refl
      step false true d m u e f w = rw (e, f) refl
      step false false d m u e f w = absurd (cc)

pub lacks_of_whole : (c l : ℕ) → AreWhole c l → LacksRest c l
lacks_of_whole c l w = λ x low off. or_from (has c x) (has l x) (w x low) off where
  or_from : (p q : Bool) → (p || q) ≡ true → p ≡ false → q ≡ true
  or_from true q e f = absurd (cc)
  or_from false q e f = e

pub whole_of_lacks : (c l : ℕ) → LacksRest c l → AreWhole c l
whole_of_lacks c l r = λ x low. or_into (has c x) (has l x) (r x low) where
  or_into : (p q : Bool) → (p ≡ false → q ≡ true) → (p || q) ≡ true
  or_into true q h = refl
  or_into false q h = h refl

-- ---- then others are set

set_part : (s : NetSetCommunity) (a b : ℕ) → IsPart a b → IsPart (with_set s a) (with_set s b)
set_part Keep a b p = p
set_part (Replace values) a b p = part_refl values
set_part (Add values) a b p = union_part a b values p
set_part Clear a b p = part_refl 0

lacked_part : (s : NetSetCommunity) (a b : ℕ) → IsPart a b → IsPart (lacked_after s a) (lacked_after s b)
lacked_part Keep a b p = p
lacked_part (Replace values) a b p = part_refl (bit_not w64 values)
lacked_part (Add values) a b p = minus_part a b values p
lacked_part Clear a b p = part_refl 18446744073709551615

set_whole : (count : ℕ) (s : NetSetCommunity) (h l : ℕ) → IsNetCommunitySet count s → AreWhole h l → AreWhole (with_set s h) (lacked_after s l)
set_whole count Keep h l ok w = w
set_whole count (Replace values) h l ok w = λ x low. step (has values x) (has (bit_not w64 values) x) (has_not values x ok.word low) where
  step : (v n : Bool) → n ≡ not v → (v || n) ≡ true
  step true n e = refl
  step false n e = e
set_whole count (Add values) h l ok w = λ x low. step (has h x) (has l x) (has values x) (has (bit_or h values) x) (has (minus l values) x) (has_union h values x) (has_minus l values x ok.word low) (w x low) where
  step : (h l v u m : Bool) → u ≡ (h || v) → m ≡ (l && not v) → (h || l) ≡ true → (u || m) ≡ true
  step true l v u m e f w = rw e refl
  step false true true u m e f w = rw e refl
  step false true false u m e f w = rw (e, f) refl
  step false false v u m e f w = absurd (cc)
set_whole count Clear h l ok w = λ x low. step (has 0 x) (has 18446744073709551615 x) (has_full x low) where
  step : (a b : Bool) → b ≡ true → (a || b) ≡ true
  step true b e = refl
  step false b e = e

-- ---- all fields together

pub sets_fit : (count lists : ℕ) (router : Router) (u : ℕ) (sets : NetSets) (t : Route) (row : Row) → IsRouter count router → IsNetSets count lists sets → Fits t row → Fits (under_sets router u sets t) (row_under_sets router u sets row)
unfolding under_sets row_under_sets
sets_fit count lists router u sets t row ok sound f = record {
  weight = replaced_holds sets.weight row.weight t.weight f.weight;
  preference = replaced_holds sets.preference row.preference t.preference f.preference;
  length = (let q = f.length in let e = length-front sets.prepend u t.path in (omega arith, omega arith));
  origin = origin_holds sets.origin row.origin t.origin f.origin;
  med = replaced_holds sets.med row.med t.med f.med;
  held = set_part sets.community (without_deleted router sets.delete t.communities) (without_deleted router sets.delete row.has) (delete_part router sets.delete t.communities row.has f.held);
  lacked = lacks_of_whole (with_set sets.community (without_deleted router sets.delete t.communities)) (lacked_after sets.community (with_deleted router sets.delete row.lacks))
      (set_whole count sets.community (without_deleted router sets.delete t.communities) (with_deleted router sets.delete row.lacks) sound.community
      (delete_whole count router sets.delete t.communities row.lacks ok (whole_of_lacks t.communities row.lacks f.lacked)));
  may = may_stays sets.prepend u row.may t.path f.may;
  must = must_passes sets.prepend u row.must t.path f.must;
}

pub sets_grow : (router : Router) (u : ℕ) (sets : NetSets) (a b : Row) → IsBelow a b → IsBelow (row_under_sets router u sets a) (row_under_sets router u sets b)
unfolding row_under_sets
sets_grow router u sets a b l = record {
  weight = replaced_lies sets.weight a.weight b.weight l.weight;
  preference = replaced_lies sets.preference a.preference b.preference l.preference;
  length = (let q = l.length in (omega arith, omega arith));
  origin = origin_lies sets.origin a.origin b.origin l.origin;
  med = replaced_lies sets.med a.med b.med l.med;
  has = set_part sets.community (without_deleted router sets.delete a.has) (without_deleted router sets.delete b.has) (delete_part router sets.delete a.has b.has l.has);
  lacks = lacked_part sets.community (with_deleted router sets.delete a.lacks) (with_deleted router sets.delete b.lacks) (deleted_part router sets.delete a.lacks b.lacks l.lacks);
  may = router_part sets.prepend u a.may b.may l.may;
  must = router_part sets.prepend u b.must a.must l.must;
}

pub sets_inhabited : (count lists : ℕ) (router : Router) (u : ℕ) (sets : NetSets) (row : Row) → IsRouter count router → IsNetSets count lists sets → IsInhabited row → IsInhabited (row_under_sets router u sets row)
unfolding row_under_sets
sets_inhabited count lists router u sets row ok sound i = record {
  weight = replaced_some sets.weight row.weight i.weight;
  preference = replaced_some sets.preference row.preference i.preference;
  length = (let q = i.length in omega arith);
  origin = origin_some sets.origin row.origin i.origin;
  med = replaced_some sets.med row.med i.med;
  communities = set_whole count sets.community (without_deleted router sets.delete row.has) (with_deleted router sets.delete row.lacks) sound.community
      (delete_whole count router sets.delete row.has row.lacks ok i.communities);
  routers = router_part sets.prepend u row.must row.may i.routers;
}

-- ---- on the row of one route

-- what is lacked is all that is not held
abbrev AreApart : ℕ → ℕ → Type 0
AreApart h l = (h < 2 ^ 64) × (l ≡ bit_not w64 h)

not_of : (h l : ℕ) → h < 2 ^ 64 → ((x : ℕ) → x < 64 → has l x ≡ not (has h x)) → ((x : ℕ) → 64 ≤ x → has l x ≡ false) → l ≡ bit_not w64 h
not_of h l small within past = same_sets l (bit_not w64 h) (λ x. elim (below_or_not x 64) [
  | inl low ↦ within x low ∙ sym (has_not h x small low)
  | inr high ↦ past x high ∙ sym (not_above h x high)
])

delete_apart : (count : ℕ) (router : Router) (at : Option ℕ) (h : ℕ) → IsRouter count router → h < 2 ^ 64 → AreApart (without_deleted router at h) (with_deleted router at (bit_not w64 h))
delete_apart count router None h ok small = (small, refl)
delete_apart count router (Some position) h ok small =
    let d = deleted_by (community_entries router position) in
    let d_small : d < 2 ^ 64 = deleted_small count (community_entries router position) (masks_at count router position ok) in
    let less : minus h d < 2 ^ 64 = (let l = and_le_l h (bit_not w64 d) in omega arith) in (
      less,
      not_of (minus h d) (bit_or (bit_not w64 h) d) less
          (λ x low. step (has h x) (has d x) (has (bit_not w64 h) x) (has (bit_or (bit_not w64 h) d) x) (has (minus h d) x) (has_not h x small low) (has_union (bit_not w64 h) d x) (has_minus h d x d_small low))
          (λ x high. has_union (bit_not w64 h) d x ∙ neither (has (bit_not w64 h) x) (has d x) (not_above h x high) (small_above d x d_small high)),
    ) where
      step : (h d n u m : Bool) → n ≡ not h → u ≡ (n || d) → m ≡ (h && not d) → u ≡ not m
      step true true n u m e f g = rw (f, g, e) refl
      step true false n u m e f g = rw (f, g, e) refl
      step false d n u m e f g = rw (f, g, e) refl

      neither : (p q : Bool) → p ≡ false → q ≡ false → (p || q) ≡ false
      neither p q e f = rw (e, f) refl

set_apart : (count : ℕ) (s : NetSetCommunity) (h l : ℕ) → IsNetCommunitySet count s → AreApart h l → AreApart (with_set s h) (lacked_after s l)
set_apart count Keep h l ok a = a
set_apart count (Replace values) h l ok a = (ok.word, refl)
set_apart count (Add values) h l ok a =
    let more : bit_or h values < 2 ^ 64 = or_lt 64 h values a.0 ok.word in (
      more,
      not_of (bit_or h values) (minus l values) more
          (λ x low. step (has h x) (has l x) (has values x) (has (bit_or h values) x) (has (minus l values) x) (ap (λ (n : ℕ). has n x) a.1 ∙ has_not h x a.0 low) (has_union h values x) (has_minus l values x ok.word low))
          (λ x high. has_common l (bit_not w64 values) x ∙ second (has l x) (has (bit_not w64 values) x) (not_above values x high)),
    ) where
      step : (h l v u m : Bool) → l ≡ not h → u ≡ (h || v) → m ≡ (l && not v) → m ≡ not u
      step true l v u m e f g = rw (f, g, e) refl
      step false l true u m e f g = rw (f, g, e) refl
      step false l false u m e f g = rw (f, g, e) refl

      second : (p q : Bool) → q ≡ false → (p && q) ≡ false
      second true q e = e
      second false q e = refl
set_apart count Clear h l ok a = (omega arith, refl)

pub sets_exact : (count lists : ℕ) (router : Router) (u : ℕ) (sets : NetSets) (t : Route) → IsRouter count router → IsNetSets count lists sets → t.communities < 2 ^ 64 → row_under_sets router u sets (exact_row t) ≡ exact_row (under_sets router u sets t)
unfolding under_sets row_under_sets
sets_exact count lists router u sets t ok sound small =
    let c = set_apart count sets.community (without_deleted router sets.delete t.communities) (with_deleted router sets.delete (bit_not w64 t.communities)) sound.community (delete_apart count router sets.delete t.communities ok small) in
    row_same (row_under_sets router u sets (exact_row t)) (exact_row (under_sets router u sets t))
    (replaced_single sets.weight t.weight)
    (replaced_single sets.preference t.preference)
    (longer (length t.path) (length (replicate sets.prepend u ++ t.path)) (length-front sets.prepend u t.path))
    (origin_single sets.origin t.origin)
    (replaced_single sets.med t.med)
    refl c.1
    (routers-front sets.prepend u t.path) (routers-front sets.prepend u t.path) where
      longer : (n m : ℕ) → m ≡ n + sets.prepend → lengthened sets.prepend (single n) ≡ single m
      longer n m e = rw e refl

pub sets_small : (count lists : ℕ) (router : Router) (u : ℕ) (sets : NetSets) (t : Route) → IsRouter count router → IsNetSets count lists sets → t.communities < 2 ^ 64 → (under_sets router u sets t).communities < 2 ^ 64
unfolding under_sets
sets_small count lists router u sets t ok sound small =
    (set_apart count sets.community (without_deleted router sets.delete t.communities) (with_deleted router sets.delete (bit_not w64 t.communities)) sound.community (delete_apart count router sets.delete t.communities ok small)).0

-- on a row with no open community
pub sets_known : (count lists : ℕ) (router : Router) (u : ℕ) (sets : NetSets) (row : Row) → IsRouter count router → IsNetSets count lists sets → IsKnown row → IsKnown (row_under_sets router u sets row)
unfolding row_under_sets
sets_known count lists router u sets row ok sound k =
    set_apart count sets.community (without_deleted router sets.delete row.has) (with_deleted router sets.delete row.lacks) sound.community
    (subst (λ (l : ℕ). AreApart (without_deleted router sets.delete row.has) (with_deleted router sets.delete l)) (sym k.1) (delete_apart count router sets.delete row.has ok k.0))
