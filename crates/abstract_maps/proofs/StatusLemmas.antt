-- Statuses: what they tell of one route of a row, what they become on a row above, and that on the row of one route
-- they say what is true of it.
use Rattle.std.proofs.Common.{ℕ, ◌≡◌, ◌<◌, ◌==◌, ◌^◌, ◌&&◌, ◌||◌, ◌⊎◌, inl, inr, Bool, true, false, not, List, [], ◌∷◌, Option, Some, None, All, bit_and, arith, ap, ◌∙◌, refl, cond}
use Rattle.std.specs.Int.{bit_not, w64}
use Rattle.std.proofs.lemmas.Bool.Decides.{nat_tests}
use Rattle.std.proofs.lemmas.List.Elements.{All-head, All-tail}
use Rattle.net_types.specs.declared.network.NetCommunityEntry.{NetCommunityEntry}
use Rattle.net_types.specs.declared.network.NetMapEntry.{NetMapEntry}
use Rattle.net_types.specs.declared.network.Router.{Router}
use Rattle.net_types.specs.declared.routes.Route.{Route}
use Rattle.net_types.specs.NetFacts.{IsNetCommunityEntry, IsRouter}
use Rattle.net_types.specs.PrefixValue.{PrefixValue}
use Rattle.net_types.specs.Sets.{has, is_part, IsPart}
use Rattle.net_types.proofs.SetLemmas.{has_common, part_from_common, common_from_part, same_sets}
use Rattle.abstract_route.specs.declared.rows.Row.{Row}
use Rattle.abstract_route.specs.Rows.{IsBelow, IsInhabited}
use Rattle.abstract_route.specs.Fits.{Fits, exact_row}
use Rattle.abstract_route.proofs.RowLemmas.{part_trans}
use Rattle.concrete_algebra.specs.Maps.{communities_match, community_entries, community_list_permits, entry_matches, prefixes_match}
use Rattle.abstract_maps.specs.declared.statuses.Status.{Status}
use Rattle.abstract_maps.specs.declared.statuses.Status.TheVariants.{No, Maybe, Yes}
use Rattle.abstract_maps.specs.OneRoute.{IsKnown}
use Rattle.abstract_maps.specs.Statuses.{values_status, Outcomes, only, by_status, outcomes, outcome_status, community_status, certain_status, both, entry_status}
use Rattle.abstract_maps.proofs.SetWords.{bool_cases, has_zero, has_not, small_member, masks_at}

-- what a status says of a route
abbrev pub Tells : Status → Bool → Type 0
Tells No matches = matches ≡ false
Tells Maybe matches = Unit {0}
Tells Yes matches = matches ≡ true

-- what a status may become on a row above
abbrev pub Grows : Status → Status → Type 0
Grows No No = Unit {0}
Grows No Maybe = Unit {0}
Grows No Yes = ⊥
Grows Maybe No = ⊥
Grows Maybe Maybe = Unit {0}
Grows Maybe Yes = ⊥
Grows Yes No = ⊥
Grows Yes Maybe = Unit {0}
Grows Yes Yes = Unit {0}

-- ---- the values of one entry of a community list

part_test : (a b : ℕ) → is_part a b ≡ true → IsPart a b
part_test a b t = part_from_common a b (grind (arith, nat_tests))

part_is : (a b : ℕ) → IsPart a b → is_part a b ≡ true
part_is a b p = let e = common_from_part a b p in grind (arith, nat_tests)

not_part : (a b c : ℕ) → IsPart b c → is_part a c ≡ false → is_part a b ≡ false
not_part a b c p f = go (is_part a b) refl where
  go : (t : Bool) → is_part a b ≡ t → t ≡ false
  go false e = refl
  go true e = absurd (let q : is_part a c ≡ true = part_is a c (part_trans a b c (part_test a b e) p) in cc)

apart : (a b x : ℕ) → bit_and a b ≡ 0 → has a x ≡ true → has b x ≡ false
apart a b x e h = let f = has_common a b x in let g : has (bit_and a b) x ≡ has 0 x = ap (λ n. has n x) e in let z : has 0 x ≡ false = has_zero x in grind (arith, nat_tests)

disjoint : (a b : ℕ) → ((x : ℕ) → has a x ≡ true → has b x ≡ false) → bit_and a b ≡ 0
disjoint a b h = same_sets (bit_and a b) 0 (λ x. let f = has_common a b x in let g = h x in let z : has 0 x ≡ false = has_zero x in grind (arith, nat_tests))

-- the status of values by the communities that may be held and lacked
abbrev status : ℕ → ℕ → ℕ → Status
status v h l = cond (not (is_part v h)) No (cond (bit_and v l == 0) Yes Maybe)

-- its ways
pub data Way (v h l : ℕ) : Type 0 where
  way_no : is_part v h ≡ false → status v h l ≡ No → Way v h l
  way_yes : IsPart v h → bit_and v l ≡ 0 → status v h l ≡ Yes → Way v h l
  way_maybe : IsPart v h → (bit_and v l ≡ 0 → ⊥) → status v h l ≡ Maybe → Way v h l

way : (v h l : ℕ) → Way v h l
way v h l = elim (bool_cases (is_part v h)) [
  | inr outside ↦ way_no outside (grind (arith, nat_tests))
  | inl inside ↦ elim (bool_cases (bit_and v l == 0)) [
    | inl none ↦ way_yes (part_test v h inside) (grind (arith, nat_tests)) (grind (arith, nat_tests))
    | inr some ↦ way_maybe (part_test v h inside) (λ e. (let f = e in grind (arith, nat_tests))) (grind (arith, nat_tests))
  ]
]

-- the communities of a route that fits
record Covers (h l c : ℕ) : Type 0 where
  inside : IsPart c h
  outside : (x : ℕ) → x < 64 → has c x ≡ false → has l x ≡ true

covers_of : (t : Route) (row : Row) → Fits t row → Covers row.has row.lacks t.communities
covers_of t row f = record { inside = f.held; outside = f.lacked }

value_tells : (v h l c : ℕ) → v < 2 ^ 64 → Covers h l c → Tells (status v h l) (is_part v c)
value_tells v h l c low covers = elim (way v h l) [
  | way_no outside is ↦ rw is (not_part v c h covers.inside outside)
  | way_yes inside none is ↦ rw is (part_is v c (record { members = λ x t. held x t (bool_cases (has c x)) none }))
  | way_maybe inside some is ↦ rw is tt
] where
  held : (x : ℕ) → has v x ≡ true → (has c x ≡ true) ⊎ (has c x ≡ false) → bit_and v l ≡ 0 → has c x ≡ true
  held x t (inl on) none = on
  held x t (inr off) none = absurd (let a : has l x ≡ false = apart v l x none t in let b : has l x ≡ true = covers.outside x (small_member v x low t) off in cc)

-- each number is in one of the two
record AreFull (h l : ℕ) : Type 0 where
  each : (x : ℕ) → x < 64 → has h x ≡ false → has l x ≡ true

or_from : (p q : Bool) → (p || q) ≡ true → p ≡ false → q ≡ true
or_from true q e f = absurd (cc)
or_from false q e f = e

full_of : (row : Row) → IsInhabited row → AreFull row.has row.lacks
full_of row i = record { each = λ x low off. or_from (has row.has x) (has row.lacks x) (i.communities x low) off }

value_grows : (v h l h2 l2 : ℕ) → v < 2 ^ 64 → AreFull h l → IsPart h h2 → IsPart l l2 → Grows (status v h l) (status v h2 l2)
value_grows v h l h2 l2 low full p q = elim (way v h l) [
  | way_no outside is ↦ rw is (elim (way v h2 l2) [
    | way_no out2 is2 ↦ rw is2 tt
    | way_yes in2 none2 is2 ↦ absurd (let f : is_part v h ≡ true = part_is v h (record { members = λ x t. held x t (bool_cases (has h x)) none2 }) in cc)
    | way_maybe in2 some2 is2 ↦ rw is2 tt
  ])
  | way_yes inside none is ↦ rw is (elim (way v h2 l2) [
    | way_no out2 is2 ↦ absurd (let f : is_part v h2 ≡ true = part_is v h2 (part_trans v h h2 inside p) in cc)
    | way_yes in2 none2 is2 ↦ rw is2 tt
    | way_maybe in2 some2 is2 ↦ rw is2 tt
  ])
  | way_maybe inside some is ↦ rw is (elim (way v h2 l2) [
    | way_no out2 is2 ↦ absurd (let f : is_part v h2 ≡ true = part_is v h2 (part_trans v h h2 inside p) in cc)
    | way_yes in2 none2 is2 ↦ absurd (some (disjoint v l (λ x t. off x (bool_cases (has l x)) (apart v l2 x none2 t))))
    | way_maybe in2 some2 is2 ↦ rw is2 tt
  ])
] where
  held : (x : ℕ) → has v x ≡ true → (has h x ≡ true) ⊎ (has h x ≡ false) → bit_and v l2 ≡ 0 → has h x ≡ true
  held x t (inl on) none = on
  held x t (inr off) none = absurd (let a : has l2 x ≡ false = apart v l2 x none t in let b : has l2 x ≡ true = q.members x (full.each x (small_member v x low t) off) in cc)

  off : (x : ℕ) → (has l x ≡ true) ⊎ (has l x ≡ false) → has l2 x ≡ false → has l x ≡ false
  off x (inl on) f = absurd (let b = q.members x on in cc)
  off x (inr none) f = none

-- on the communities of one route alone
value_sharp : (v c : ℕ) → v < 2 ^ 64 → c < 2 ^ 64 → status v c (bit_not w64 c) ≡ certain_status (is_part v c)
value_sharp v c low small = elim (way v c (bit_not w64 c)) [
  | way_no outside is ↦ is ∙ (rw outside refl)
  | way_yes inside none is ↦ is ∙ (let e = part_is v c inside in rw e refl)
  | way_maybe inside some is ↦ absurd (some (disjoint v (bit_not w64 c) (λ x t. off x t inside)))
] where
  off : (x : ℕ) → has v x ≡ true → IsPart v c → has (bit_not w64 c) x ≡ false
  off x t inside = has_not c x small (small_member v x low t) ∙ ap not (inside.members x t)

-- ---- the outcomes of a list

record IsWider (o p : Outcomes) : Type 0 where
  permits : o.permit ≡ true → p.permit ≡ true
  denies : o.deny ≡ true → p.deny ≡ true

by_status_wider : (s t : Status) (a : Bool) (o p : Outcomes) → Grows s t → IsWider o p → IsWider (by_status s a o) (by_status t a p)
by_status_wider No No a o p g w = w
by_status_wider No Maybe a o p g w = record { permits = λ h. (let e = w.permits h in grind (arith, nat_tests)); denies = λ h. (let e = w.denies h in grind (arith, nat_tests)) }
by_status_wider No Yes a o p g w = absurd g
by_status_wider Maybe No a o p g w = absurd g
by_status_wider Maybe Maybe a o p g w = record { permits = λ h. (let e = w.permits in grind (arith, nat_tests)); denies = λ h. (let e = w.denies in grind (arith, nat_tests)) }
by_status_wider Maybe Yes a o p g w = absurd g
by_status_wider Yes No a o p g w = absurd g
by_status_wider Yes Maybe a o p g w = record { permits = λ h. grind (arith, nat_tests); denies = λ h. grind (arith, nat_tests) }
by_status_wider Yes Yes a o p g w = record { permits = λ h. h; denies = λ h. h }

outcomes_wider : (count : ℕ) (es : List NetCommunityEntry) (a b : Row) → All (IsNetCommunityEntry count) es → IsInhabited a → IsBelow a b → IsWider (outcomes es a) (outcomes es b)
unfolding outcomes
outcomes_wider count [] a b small i l = record { permits = λ t. t; denies = λ t. t }
outcomes_wider count (e ∷ es) a b small i l =
    by_status_wider (values_status e.values a) (values_status e.values b) e.permit (outcomes es a) (outcomes es b)
    (value_grows e.values a.has a.lacks b.has b.lacks (All-head (IsNetCommunityEntry count) e es small).values.word (full_of a i) l.has l.lacks)
    (outcomes_wider count es a b (All-tail (IsNetCommunityEntry count) e es small) i l)

-- what the outcomes say of a route
record Includes (o : Outcomes) (answer : Bool) : Type 0 where
  permits : answer ≡ true → o.permit ≡ true
  denies : answer ≡ false → o.deny ≡ true

step_includes : (s : Status) (matches action later : Bool) (o : Outcomes) → Tells s matches → Includes o later → Includes (by_status s action o) (cond matches action later)
step_includes No matches action later o t i = rw t i
step_includes Yes matches action later o t i = rw t (record { permits = λ h. h; denies = λ h. grind (arith, nat_tests) })
step_includes Maybe true action later o t i = record { permits = λ h. grind (arith, nat_tests); denies = λ h. grind (arith, nat_tests) }
step_includes Maybe false action later o t i = record { permits = λ h. (let e = i.permits h in grind (arith, nat_tests)); denies = λ h. (let e = i.denies h in grind (arith, nat_tests)) }

outcomes_include : (count : ℕ) (es : List NetCommunityEntry) (t : Route) (row : Row) → All (IsNetCommunityEntry count) es → Fits t row → Includes (outcomes es row) (community_list_permits t.communities es)
unfolding outcomes community_list_permits
outcomes_include count [] t row small f = record { permits = λ t. t; denies = λ t. refl }
outcomes_include count (e ∷ es) t row small f =
    step_includes (values_status e.values row) (is_part e.values t.communities) e.permit (community_list_permits t.communities es) (outcomes es row)
    (value_tells e.values row.has row.lacks t.communities (All-head (IsNetCommunityEntry count) e es small).values.word (covers_of t row f))
    (outcomes_include count es t row (All-tail (IsNetCommunityEntry count) e es small) f)

step_sharp : (matches action later : Bool) → by_status (certain_status matches) action (only later) ≡ only (cond matches action later)
step_sharp true action later = refl
step_sharp false action later = refl

-- on a row with no open community
value_known : (v : ℕ) (row : Row) → v < 2 ^ 64 → IsKnown row → values_status v row ≡ certain_status (is_part v row.has)
value_known v row low k = ap (λ (l : ℕ). status v row.has l) k.1 ∙ value_sharp v row.has low k.0

outcomes_known : (count : ℕ) (es : List NetCommunityEntry) (row : Row) → All (IsNetCommunityEntry count) es → IsKnown row → outcomes es row ≡ only (community_list_permits row.has es)
unfolding outcomes community_list_permits
outcomes_known count [] row small k = refl
outcomes_known count (e ∷ es) row small k =
    ap (λ (s : Status). by_status s e.permit (outcomes es row)) (value_known e.values row (All-head (IsNetCommunityEntry count) e es small).values.word k) ∙
    ap (λ (o : Outcomes). by_status (certain_status (is_part e.values row.has)) e.permit o) (outcomes_known count es row (All-tail (IsNetCommunityEntry count) e es small) k) ∙
    step_sharp (is_part e.values row.has) e.permit (community_list_permits row.has es)

outcome_tells : (o : Outcomes) (answer : Bool) → Includes o answer → Tells (outcome_status o) answer
outcome_tells o answer i = go o.permit o.deny answer refl refl refl where
  go : (p d a : Bool) → o.permit ≡ p → o.deny ≡ d → answer ≡ a → Tells (cond (not o.deny) Yes (cond (not o.permit) No Maybe)) answer
  go p false true ep ed ea = rw ed ea
  go p false false ep ed ea = absurd (let t : o.deny ≡ true = i.denies ea in cc)
  go true true a ep ed ea = rw (ed, ep) tt
  go false true true ep ed ea = absurd (let t : o.permit ≡ true = i.permits ea in cc)
  go false true false ep ed ea = rw (ed, ep) ea

-- one outcome is always there
record HasOne (o : Outcomes) : Type 0 where
  one : o.permit ≡ false → o.deny ≡ true

has_one : (es : List NetCommunityEntry) (row : Row) → HasOne (outcomes es row)
unfolding outcomes
has_one [] row = record { one = λ h. refl }
has_one (e ∷ es) row = step (values_status e.values row) e.permit (outcomes es row) (has_one es row) where
  step : (s : Status) (a : Bool) (o : Outcomes) → HasOne o → HasOne (by_status s a o)
  step No a o h = h
  step Yes true o h = record { one = λ e. absurd (cc) }
  step Yes false o h = record { one = λ e. refl }
  step Maybe true o h = record { one = λ e. absurd (cc) }
  step Maybe false o h = record { one = λ e. refl }

outcome_grows : (o p : Outcomes) → HasOne o → IsWider o p → Grows (outcome_status o) (outcome_status p)
outcome_grows o p some w = go o.permit o.deny p.permit p.deny refl refl refl refl where
  go : (a b c d : Bool) → o.permit ≡ a → o.deny ≡ b → p.permit ≡ c → p.deny ≡ d → Grows (cond (not o.deny) Yes (cond (not o.permit) No Maybe)) (cond (not p.deny) Yes (cond (not p.permit) No Maybe))
  go a false c false ea eb ec ed = rw (eb, ed) tt
  go a false true true ea eb ec ed = rw (eb, ed, ec) tt
  go true false false true ea eb ec ed = absurd (let t = w.permits ea in cc)
  go false false false true ea eb ec ed = absurd (let t = some.one ea in cc)
  go a true c false ea eb ec ed = absurd (let t = w.denies eb in cc)
  go true true true true ea eb ec ed = rw (eb, ed, ea, ec) tt
  go true true false true ea eb ec ed = absurd (let t = w.permits ea in cc)
  go false true true true ea eb ec ed = rw (eb, ed, ea, ec) tt
  go false true false true ea eb ec ed = rw (eb, ed, ea, ec) tt

-- ---- the matches of an entry of a map

certain_tells : (b : Bool) → Tells (certain_status b) b
certain_tells true = refl
certain_tells false = refl

certain_grows : (b : Bool) → Grows (certain_status b) (certain_status b)
certain_grows true = tt
certain_grows false = tt

both_tells : (s t : Status) (a b : Bool) → Tells s a → Tells t b → Tells (both s t) (a && b)
both_tells No t a b p q = rw p refl
both_tells Yes t a b p q = rw p q
both_tells Maybe No a b p q = and_false a b q where
  and_false : (a b : Bool) → b ≡ false → (a && b) ≡ false
  and_false true b e = e
  and_false false b e = refl
both_tells Maybe Maybe a b p q = tt
both_tells Maybe Yes a b p q = tt

both_grows : (s s2 t t2 : Status) → Grows s s2 → Grows t t2 → Grows (both s t) (both s2 t2)
both_grows No No t t2 g h = tt
both_grows No Maybe t No g h = tt
both_grows No Maybe t Maybe g h = tt
both_grows No Maybe t Yes g h = tt
both_grows No Yes t t2 g h = absurd g
both_grows Maybe No t t2 g h = absurd g
both_grows Maybe Maybe No No g h = tt
both_grows Maybe Maybe No Maybe g h = tt
both_grows Maybe Maybe No Yes g h = absurd h
both_grows Maybe Maybe Maybe No g h = absurd h
both_grows Maybe Maybe Maybe Maybe g h = tt
both_grows Maybe Maybe Maybe Yes g h = absurd h
both_grows Maybe Maybe Yes No g h = absurd h
both_grows Maybe Maybe Yes Maybe g h = tt
both_grows Maybe Maybe Yes Yes g h = tt
both_grows Maybe Yes t t2 g h = absurd g
both_grows Yes No t t2 g h = absurd g
both_grows Yes Maybe No No g h = tt
both_grows Yes Maybe No Maybe g h = tt
both_grows Yes Maybe No Yes g h = absurd h
both_grows Yes Maybe Maybe No g h = absurd h
both_grows Yes Maybe Maybe Maybe g h = tt
both_grows Yes Maybe Maybe Yes g h = absurd h
both_grows Yes Maybe Yes No g h = absurd h
both_grows Yes Maybe Yes Maybe g h = tt
both_grows Yes Maybe Yes Yes g h = tt
both_grows Yes Yes t t2 g h = h

both_sharp : (a b : Bool) → both (certain_status a) (certain_status b) ≡ certain_status (a && b)
both_sharp true b = refl
both_sharp false b = refl

sharp_outcome : (b : Bool) → outcome_status (only b) ≡ certain_status b
sharp_outcome true = refl
sharp_outcome false = refl

communities_tell : (count : ℕ) (router : Router) (at : Option ℕ) (t : Route) (row : Row) → IsRouter count router → Fits t row → Tells (community_status router at row) (communities_match router at t.communities)
communities_tell count router None t row ok f = refl
communities_tell count router (Some position) t row ok f =
    outcome_tells (outcomes (community_entries router position) row) (community_list_permits t.communities (community_entries router position))
    (outcomes_include count (community_entries router position) t row (masks_at count router position ok) f)

communities_grow : (count : ℕ) (router : Router) (at : Option ℕ) (a b : Row) → IsRouter count router → IsInhabited a → IsBelow a b → Grows (community_status router at a) (community_status router at b)
communities_grow count router None a b ok i l = tt
communities_grow count router (Some position) a b ok i l =
    outcome_grows (outcomes (community_entries router position) a) (outcomes (community_entries router position) b)
    (has_one (community_entries router position) a) (outcomes_wider count (community_entries router position) a b (masks_at count router position ok) i l)

communities_known : (count : ℕ) (router : Router) (at : Option ℕ) (row : Row) → IsRouter count router → IsKnown row → community_status router at row ≡ certain_status (communities_match router at row.has)
communities_known count router None row ok k = refl
communities_known count router (Some position) row ok k =
    ap (λ (o : Outcomes). outcome_status o) (outcomes_known count (community_entries router position) row (masks_at count router position ok) k) ∙
    sharp_outcome (community_list_permits row.has (community_entries router position))

pub entry_tells : (count : ℕ) (router : Router) (prefix : PrefixValue) (e : NetMapEntry) (t : Route) (row : Row) → IsRouter count router → Fits t row → Tells (entry_status router prefix e row) (entry_matches router prefix e t.communities)
entry_tells count router prefix e t row ok f =
    both_tells (certain_status (prefixes_match router e.prefixes prefix)) (community_status router e.communities row)
    (prefixes_match router e.prefixes prefix) (communities_match router e.communities t.communities)
    (certain_tells (prefixes_match router e.prefixes prefix)) (communities_tell count router e.communities t row ok f)

pub entry_grows : (count : ℕ) (router : Router) (prefix : PrefixValue) (e : NetMapEntry) (a b : Row) → IsRouter count router → IsInhabited a → IsBelow a b → Grows (entry_status router prefix e a) (entry_status router prefix e b)
entry_grows count router prefix e a b ok i l =
    both_grows (certain_status (prefixes_match router e.prefixes prefix)) (certain_status (prefixes_match router e.prefixes prefix))
    (community_status router e.communities a) (community_status router e.communities b)
    (certain_grows (prefixes_match router e.prefixes prefix)) (communities_grow count router e.communities a b ok i l)

pub entry_known : (count : ℕ) (router : Router) (prefix : PrefixValue) (e : NetMapEntry) (row : Row) → IsRouter count router → IsKnown row → entry_status router prefix e row ≡ certain_status (entry_matches router prefix e row.has)
entry_known count router prefix e row ok k =
    ap (λ (s : Status). both (certain_status (prefixes_match router e.prefixes prefix)) s) (communities_known count router e.communities row ok k) ∙
    both_sharp (prefixes_match router e.prefixes prefix) (communities_match router e.communities row.has)

pub entry_sharp : (count : ℕ) (router : Router) (prefix : PrefixValue) (e : NetMapEntry) (t : Route) → IsRouter count router → t.communities < 2 ^ 64 → entry_status router prefix e (exact_row t) ≡ certain_status (entry_matches router prefix e t.communities)
entry_sharp count router prefix e t ok low = entry_known count router prefix e (exact_row t) ok (low, refl)
