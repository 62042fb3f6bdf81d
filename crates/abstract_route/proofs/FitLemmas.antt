-- What fits a row: the set of a path's routers, fits along the order, and the exact row of a route.
use Rattle.std.proofs.Common.{ℕ, ◌≡◌, ◌≢◌, ◌<◌, ◌≤◌, ◌==◌, ◌-◌, ◌^◌, ◌&&◌, ◌||◌, ◌⊎◌, inl, inr, nat_le, Bool, true, false, not, List, [], ◌∷◌, length, fold, All, bit_or, arith, ap, sym, ◌∙◌, refl, IsTrue, ◌↔◌}
use Rattle.std.specs.Int.{bit_not, w64, bit_at}
use Rattle.std.proofs.lemmas.Bool.Decides.{nat_tests}
use Rattle.std.proofs.lemmas.Nat.Bits.{bit_at-pow_same, bit_at-pow_other, bit_at_above, bit_at_not, bit_at-lt, bit_at_ones}
use Rattle.net_types.specs.Routes.{is_on}
use Rattle.net_types.specs.declared.routes.Route.{Route}
use Rattle.std.proofs.lemmas.Nat.{or_lt, pow_below}
use Rattle.std.proofs.lemmas.List.Elements.{All-head, All-tail}
use Rattle.net_types.specs.declared.config.Origin.{Origin}
use Rattle.net_types.specs.declared.config.Origin.TheVariants.{Igp, Egp, Incomplete}
use Rattle.net_types.specs.Better.{origin_rank}
use Rattle.net_types.specs.Sets.{has, is_part, IsPart}
use Rattle.net_types.proofs.SetLemmas.{has_union, part_from_common, common_from_part}
use Rattle.abstract_route.specs.declared.rows.Row.{Row}
use Rattle.abstract_route.specs.Rows.{IsBelow, IsInhabited, IsRow, carried_row, inhabited, bottom}
use Rattle.abstract_route.specs.Fits.{Fits, LacksRest, StaysIn, PassesAll, IsExact, routers_of, exact_row}
use Rattle.abstract_route.proofs.RowLemmas.{part_refl, part_trans}

bool_cases : (b : Bool) → (b ≡ true) ⊎ (b ≡ false)
bool_cases true = inl refl
bool_cases false = inr refl

below_or_not : (x n : ℕ) → (x < n) ⊎ (n ≤ x)
below_or_not x n = grind arith

same_or : (x y : ℕ) → (y ≡ x) ⊎ (y ≢ x)
same_or x y = grind arith

has_single : (x y : ℕ) → has (2 ^ x) y ≡ (y == x)
has_single x y = elim (same_or x y) [
  | inl same ↦ let e = bit_at-pow_same x in let f : bit_at (2 ^ x) y ≡ 1 = rw same e in grind (arith, nat_tests)
  | inr other ↦ let e = bit_at-pow_other x y other in grind (arith, nat_tests)
]

-- ---- the set of a path's routers

has_more : (set y x : ℕ) → has (bit_or set (2 ^ y)) x ≡ (has set x || (x == y))
has_more set y x = has_union set (2 ^ y) x ∙ ap (λ (b : Bool). has set x || b) (has_single y x)

or_grouped : (p q r : Bool) → ((p || q) || r) ≡ (p || (q || r))
or_grouped true q r = refl
or_grouped false q r = refl

has_fold : (set : ℕ) (path : List ℕ) (x : ℕ) → has (fold (λ s y. bit_or s (2 ^ y)) set path) x ≡ (has set x || is_on x path)
has_fold set [] x = or_false (has set x) where
  or_false : (b : Bool) → b ≡ (b || false)
  or_false true = refl
  or_false false = refl
has_fold set (y ∷ path) x =
    has_fold (bit_or set (2 ^ y)) path x ∙
    ap (λ (b : Bool). b || is_on x path) (has_more set y x) ∙
    or_grouped (has set x) (x == y) (is_on x path)

has_none : (x : ℕ) → has 0 x ≡ false
has_none x = let e = bit_at_above 0 0 x (omega arith) (omega arith) in grind (arith, nat_tests)

pub has-routers_of : (path : List ℕ) (x : ℕ) → has (routers_of path) x ≡ is_on x path
has-routers_of path x = has_fold 0 path x ∙ ap (λ (b : Bool). b || is_on x path) (has_none x)

pub stays_in : (path : List ℕ) (may : ℕ) → IsPart (routers_of path) may ↔ StaysIn path may
stays_in path may = ((λ p x on. p.members x (has-routers_of path x ∙ on)), (λ s. record { members = λ x h. s x (sym (has-routers_of path x) ∙ h) }))

pub passes_all : (path : List ℕ) (must : ℕ) → IsPart must (routers_of path) ↔ PassesAll path must
passes_all path must = ((λ p x h. sym (has-routers_of path x) ∙ p.members x h), (λ s. record { members = λ x h. has-routers_of path x ∙ s x h }))

-- ---- all numbers below 64

pub has_full : (x : ℕ) → x < 64 → has 18446744073709551615 x ≡ true
has_full x low = let e = bit_at_ones 64 x low in grind (arith, nat_tests)

full_below : (x : ℕ) → has 18446744073709551615 x ≡ true → x < 64
full_below x h = elim (below_or_not x 64) [
  | inl low ↦ low
  | inr high ↦ absurd (let e = bit_at_above 18446744073709551615 64 x (omega arith) high in grind (arith, nat_tests))
]

pub full_in : (set : ℕ) → IsPart 18446744073709551615 set ↔ ((x : ℕ) → x < 64 → has set x ≡ true)
full_in set = ((λ p x low. p.members x (has_full x low)), (λ s. record { members = λ x h. s x (full_below x h) }))

or_from : (p q : Bool) → (p || q) ≡ true → p ≡ false → q ≡ true
or_from true q e f = absurd (cc)
or_from false q e f = e

or_into : (p q : Bool) → (p ≡ false → q ≡ true) → (p || q) ≡ true
or_into true q h = refl
or_into false q h = h refl

pub lacks_rest : (communities lacks : ℕ) → IsPart 18446744073709551615 (bit_or communities lacks) ↔ LacksRest communities lacks
lacks_rest c l = (
  (λ p x low off. or_from (has c x) (has l x) (sym (has_union c l x) ∙ (full_in (bit_or c l)).0 p x low) off),
  (λ r. (full_in (bit_or c l)).1 (λ x low. has_union c l x ∙ or_into (has c x) (has l x) (r x low))),
)

-- ---- fits and below

pub fits_below : (t : Route) (a b : Row) → IsBelow a b → Fits t a → Fits t b
fits_below t a b l f = record {
  weight = (let p = l.weight in let q = f.weight in (omega arith, omega arith));
  preference = (let p = l.preference in let q = f.preference in (omega arith, omega arith));
  length = (let p = l.length in let q = f.length in (omega arith, omega arith));
  origin = (let p = l.origin in let q = f.origin in (omega arith, omega arith));
  med = (let p = l.med in let q = f.med in (omega arith, omega arith));
  held = part_trans t.communities a.has b.has f.held l.has;
  lacked = λ x low off. l.lacks.members x (f.lacked x low off);
  may = λ x on. l.may.members x (f.may x on);
  must = λ x m. f.must x (l.must.members x m);
}

pub fits_inhabited : (t : Route) (a : Row) → Fits t a → IsInhabited a
fits_inhabited t a f = record {
  weight = (let q = f.weight in omega arith);
  preference = (let q = f.preference in omega arith);
  length = (let q = f.length in omega arith);
  origin = (let q = f.origin in omega arith);
  med = (let q = f.med in omega arith);
  communities = λ x low. or_into (has a.has x) (has a.lacks x) (λ off. f.lacked x low (out x (bool_cases (has t.communities x)) off));
  routers = record { members = λ x m. f.may x (f.must x m) };
} where
  out : (x : ℕ) → (has t.communities x ≡ true) ⊎ (has t.communities x ≡ false) → has a.has x ≡ false → has t.communities x ≡ false
  out x (inl on) off = absurd (let p = f.held.members x on in cc)
  out x (inr o) off = o

pub bottom_fits_none : (t : Route) → Fits t bottom → ⊥
bottom_fits_none t f = let q = f.weight in omega arith

-- ---- the exact row

pub has_others : (c x : ℕ) → c < 2 ^ 64 → x < 64 → has (bit_not w64 c) x ≡ not (has c x)
has_others c x small low = let e = bit_at_not w64 c x small low in let l = bit_at-lt c x in go (bit_at (bit_not w64 c) x) (bit_at c x) e l where
  go : (n b : ℕ) → n ≡ 1 - b → b < 2 → (n == 1) ≡ not (b == 1)
  go n b e l = grind (arith, nat_tests)

others_below : (c x : ℕ) → has (bit_not w64 c) x ≡ true → x < 64
others_below c x h = elim (below_or_not x 64) [
  | inl low ↦ low
  | inr high ↦ absurd (let e = bit_at_above (bit_not w64 c) 64 x (omega arith) high in grind (arith, nat_tests))
]

pub exact_is_least : (t : Route) → t.communities < 2 ^ 64 → IsExact t (exact_row t)
exact_is_least t small = record {
  fits = record {
    weight = (omega arith, omega arith);
    preference = (omega arith, omega arith);
    length = (omega arith, omega arith);
    origin = (omega arith, omega arith);
    med = (omega arith, omega arith);
    held = part_refl t.communities;
    lacked = λ x low off. has_others t.communities x small low ∙ ap not off;
    may = λ x on. has-routers_of t.path x ∙ on;
    must = λ x m. sym (has-routers_of t.path x) ∙ m;
  };
  least = λ row f. record {
    weight = f.weight;
    preference = f.preference;
    length = f.length;
    origin = f.origin;
    med = f.med;
    has = f.held;
    lacks = record { members = λ x h. let low = others_below t.communities x h in f.lacked x low (off x (sym (has_others t.communities x small low) ∙ h)) };
    may = record { members = λ x h. f.may x (sym (has-routers_of t.path x) ∙ h) };
    must = record { members = λ x m. has-routers_of t.path x ∙ f.must x m };
  };
} where
  unnot : (b : Bool) → not b ≡ true → b ≡ false
  unnot true e = absurd (cc)
  unnot false e = refl

  off : (x : ℕ) → not (has t.communities x) ≡ true → has t.communities x ≡ false
  off x e = unnot (has t.communities x) e

-- ---- the test for an inhabited row

and_split : (p q : Bool) → (p && q) ≡ true → (p ≡ true) × (q ≡ true)
and_split true q e = (refl, e)
and_split false q e = absurd (cc)

and_join : (p q : Bool) → p ≡ true → q ≡ true → (p && q) ≡ true
and_join p q e f = rw (e, f) refl

le_from : (a b : ℕ) → nat_le a b ≡ true → a ≤ b
le_from a b e = grind (arith, nat_tests)

le_into : (a b : ℕ) → a ≤ b → nat_le a b ≡ true
le_into a b e = grind (arith, nat_tests)

part_from : (a b : ℕ) → is_part a b ≡ true → IsPart a b
part_from a b e = part_from_common a b (grind (arith, nat_tests))

part_into : (a b : ℕ) → IsPart a b → is_part a b ≡ true
part_into a b p = let e = common_from_part a b p in grind (arith, nat_tests)

-- seven tests that all hold
abbrev Seven : Bool → Bool → Bool → Bool → Bool → Bool → Bool → Type 0
Seven a b c d e f g = (a ≡ true) × (b ≡ true) × (c ≡ true) × (d ≡ true) × (e ≡ true) × (f ≡ true) × (g ≡ true)

seven_from : (a b c d e f g : Bool) → (a && b && c && d && e && f && g) ≡ true → Seven a b c d e f g
seven_from a b c d e f g h =
    let h1 = and_split (a && b && c && d && e && f) g h in
    let h2 = and_split (a && b && c && d && e) f h1.0 in
    let h3 = and_split (a && b && c && d) e h2.0 in
    let h4 = and_split (a && b && c) d h3.0 in
    let h5 = and_split (a && b) c h4.0 in
    let h6 = and_split a b h5.0 in
    (h6.0, h6.1, h5.1, h4.1, h3.1, h2.1, h1.1)

seven_into : (a b c d e f g : Bool) → Seven a b c d e f g → (a && b && c && d && e && f && g) ≡ true
seven_into a b c d e f g h =
    and_join (a && b && c && d && e && f) g (and_join (a && b && c && d && e) f (and_join (a && b && c && d) e
    (and_join (a && b && c) d (and_join (a && b) c (and_join a b h.0 h.1) h.2) h.3) h.4) h.5) h.6

inhabited_from : (r : Row) → inhabited r ≡ true → IsInhabited r
inhabited_from r h =
    let s = seven_from (nat_le r.weight.low r.weight.high) (nat_le r.preference.low r.preference.high) (nat_le r.length.low r.length.high)
    (nat_le r.origin.low r.origin.high) (nat_le r.med.low r.med.high)
    (is_part 18446744073709551615 (bit_or r.has r.lacks)) (is_part r.must r.may) h in
    record {
      weight = le_from r.weight.low r.weight.high s.0;
      preference = le_from r.preference.low r.preference.high s.1;
      length = le_from r.length.low r.length.high s.2;
      origin = le_from r.origin.low r.origin.high s.3;
      med = le_from r.med.low r.med.high s.4;
      communities = λ x low. sym (has_union r.has r.lacks x) ∙
          (full_in (bit_or r.has r.lacks)).0 (part_from 18446744073709551615 (bit_or r.has r.lacks) s.5) x low;
      routers = part_from r.must r.may s.6;
    }

inhabited_into : (r : Row) → IsInhabited r → inhabited r ≡ true
inhabited_into r h =
    seven_into (nat_le r.weight.low r.weight.high) (nat_le r.preference.low r.preference.high) (nat_le r.length.low r.length.high)
    (nat_le r.origin.low r.origin.high) (nat_le r.med.low r.med.high)
    (is_part 18446744073709551615 (bit_or r.has r.lacks)) (is_part r.must r.may) (
      le_into r.weight.low r.weight.high h.weight,
      le_into r.preference.low r.preference.high h.preference,
      le_into r.length.low r.length.high h.length,
      le_into r.origin.low r.origin.high h.origin,
      le_into r.med.low r.med.high h.med,
      part_into 18446744073709551615 (bit_or r.has r.lacks) ((full_in (bit_or r.has r.lacks)).1 (λ x low. has_union r.has r.lacks x ∙ h.communities x low)),
      part_into r.must r.may h.routers,
    )

pub inhabited_is : (r : Row) → (inhabited r ≡ true) ↔ IsInhabited r
inhabited_is r = (inhabited_from r, inhabited_into r)

pub inhabited_fact : (b : Bool) (r : Row) → b ≡ inhabited r → IsTrue b ↔ IsInhabited r
inhabited_fact b r e = ((λ t. inhabited_from r (grind (arith, nat_tests))), (λ h. let f = inhabited_into r h in grind (arith, nat_tests)))

or_right : (r s : Bool) → s ≡ true → (r || s) ≡ true
or_right true s e = refl
or_right false s e = e

pub inhabited_up : (a b : Row) → IsBelow a b → IsInhabited a → IsInhabited b
inhabited_up a b l h = record {
  weight = (let p = l.weight in let q = h.weight in omega arith);
  preference = (let p = l.preference in let q = h.preference in omega arith);
  length = (let p = l.length in let q = h.length in omega arith);
  origin = (let p = l.origin in let q = h.origin in omega arith);
  med = (let p = l.med in let q = h.med in omega arith);
  communities = λ x low. or_up (has a.has x) (has a.lacks x) (has b.has x) (has b.lacks x) (l.has.members x) (l.lacks.members x) (h.communities x low);
  routers = part_trans b.must a.may b.may (part_trans b.must a.must a.may l.must h.routers) l.may;
} where
  or_up : (p q r s : Bool) → (p ≡ true → r ≡ true) → (q ≡ true → s ≡ true) → (p || q) ≡ true → (r || s) ≡ true
  or_up true q r s f g e = rw (f refl) refl
  or_up false q r s f g e = let k = g e in or_right r s k

-- ---- the words of an exact row

routers_below : (set : ℕ) (path : List ℕ) → set < 2 ^ 64 → All (λ x. x < 64) path → fold (λ s y. bit_or s (2 ^ y)) set path < 2 ^ 64
routers_below set [] small low = small
routers_below set (y ∷ path) small low =
    routers_below (bit_or set (2 ^ y)) path (or_lt 64 set (2 ^ y) small (pow_below y 64 (All-head (λ x. x < 64) y path low))) (All-tail (λ x. x < 64) y path low)

pub exact_is_row : (t : Route) → t.weight < 2 ^ 64 → t.preference < 2 ^ 64 → length t.path < 2 ^ 64 → t.med < 2 ^ 64 →
    t.communities < 2 ^ 64 → All (λ x. x < 64) t.path → IsRow (exact_row t)
exact_is_row t weight preference long med communities low =
    let routers = routers_below 0 t.path (omega arith) low in
    record {
      low = (weight, preference, long, origin_small t.origin, med);
      high = (weight, preference, long, origin_small t.origin, med);
      sets = (communities, omega arith, routers, routers);
    } where
      origin_small : (o : Origin) → origin_rank o < 2 ^ 64
      origin_small Igp = omega arith
      origin_small Egp = omega arith
      origin_small Incomplete = omega arith

-- ---- what an arc carries

pub carried_is_row : (r : Row) → IsRow r → IsRow (carried_row r)
carried_is_row r h = record {
  low = (h.low.0, h.low.1, h.low.2, h.low.3, omega arith);
  high = (h.high.0, h.high.1, h.high.2, h.high.3, omega arith);
  sets = h.sets;
}

pub carried_up : (a b : Row) → IsBelow a b → IsBelow (carried_row a) (carried_row b)
carried_up a b l = record {
  weight = l.weight;
  preference = l.preference;
  length = l.length;
  origin = l.origin;
  med = (omega arith, omega arith);
  has = l.has;
  lacks = l.lacks;
  may = l.may;
  must = l.must;
}

pub carried_fits : (t : Route) (r : Row) → Fits t r → Fits (record t { med = 0 }) (carried_row r)
carried_fits t r f = record {
  weight = f.weight;
  preference = f.preference;
  length = f.length;
  origin = f.origin;
  med = (omega arith, omega arith);
  held = f.held;
  lacked = f.lacked;
  may = f.may;
  must = f.must;
}
