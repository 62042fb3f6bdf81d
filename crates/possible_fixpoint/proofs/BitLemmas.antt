-- Sets with a number more or less, and sets of arcs.
use Rattle.std.proofs.Common.{ℕ, ◌≡◌, ◌≢◌, ◌+◌, ◌*◌, ◌<◌, ◌||◌, ◌&&◌, ◌==◌, ◌-◌, ◌^◌, ◌⊎◌, inl, inr, not, Bool, true, false, arith, bit_or, ap, sym, ◌∙◌, refl}
use Rattle.std.proofs.lemmas.Bool.Decides.{nat_tests}
use Rattle.std.proofs.lemmas.Nat.{pow_below}
use Rattle.std.proofs.lemmas.Nat.Bits.{bit_at-lt, bit_at_not}
use Rattle.std.specs.Int.{bit_at, bit_not, w64}
use Rattle.net_types.specs.declared.arcs.Arc.{Arc}
use Rattle.net_types.specs.Sets.{has, IsPart}
use Rattle.net_types.proofs.SetLemmas.{same_sets, has_union, has_common}
use Rattle.net_types.proofs.TurnLemmas.{has_none, has_single}
use Rattle.abstract_route.specs.declared.rows.Row.{Row}
use Rattle.abstract_route.specs.Rows.{IsInhabited}
use Rattle.abstract_route.proofs.RowLemmas.{common_left}
use Rattle.possible_fixpoint.specs.declared.marks.ArcSet.{ArcSet}
use Rattle.possible_fixpoint.specs.Marks.{IsNoted, has_arc, less, number, side, with_arc}

part_false : (a b : Bool) → (a ≡ true → b ≡ true) → b ≡ false → a ≡ false
part_false a b f g = grind arith

-- what a part lacks
pub lacks_part : (a b : ℕ) → IsPart a b → (x : ℕ) → has b x ≡ false → has a x ≡ false
lacks_part a b p x h = part_false (has a x) (has b x) (p.members x) h

-- a set with one more number
pub has_more : (s v x : ℕ) → has (bit_or s (2 ^ v)) x ≡ (has s x || (x == v))
has_more s v x = has_union s (2 ^ v) x ∙ ap (λ (b : Bool). has s x || b) (has_single v x)

pub lacks_more : (s v x : ℕ) → has (bit_or s (2 ^ v)) x ≡ false → (has s x ≡ false) × (x ≢ v)
lacks_more s v x h = ((let e = has_more s v x in grind (arith, nat_tests)), (let e = has_more s v x in grind (arith, nat_tests)))

pub old_or_new : (s v x : ℕ) → has (bit_or s (2 ^ v)) x ≡ true → (has s x ≡ true) ⊎ (x ≡ v)
old_or_new s v x h = let e = has_more s v x in grind (arith, nat_tests)

has_not : (u x : ℕ) → u < 64 → x < 64 → has (bit_not w64 (2 ^ u)) x ≡ not (x == u)
has_not u x u_low low =
    let p : 2 ^ u < 2 ^ 64 = pow_below u 64 u_low in
    let e : bit_at (bit_not w64 (2 ^ u)) x ≡ 1 - bit_at (2 ^ u) x = bit_at_not w64 (2 ^ u) x p low in
    let f : has (2 ^ u) x ≡ (x == u) = has_single u x in
    let l = bit_at-lt (2 ^ u) x in go (bit_at (bit_not w64 (2 ^ u)) x) (bit_at (2 ^ u) x) e f l where
      go : (n b : ℕ) → n ≡ 1 - b → (b == 1) ≡ (x == u) → b < 2 → (n == 1) ≡ not (x == u)
      go n b e f l = grind (arith, nat_tests)

has_less : (s u x : ℕ) → u < 64 → x < 64 → has (less s u) x ≡ (has s x && not (x == u))
has_less s u x u_low low = has_common s (bit_not w64 (2 ^ u)) x ∙ ap (λ (b : Bool). has s x && b) (has_not u x u_low low)

pub lacks_gone : (s u : ℕ) → u < 64 → has (less s u) u ≡ false
lacks_gone s u h = let e = has_less s u u h h in grind (arith, nat_tests)

pub lacks_less : (s u x : ℕ) → u < 64 → x < 64 → has (less s u) x ≡ false → (has s x ≡ false) ⊎ (x ≡ u)
lacks_less s u x u_low low h = let e = has_less s u x u_low low in grind (arith, nat_tests)

pub less_part : (s u : ℕ) → IsPart (less s u) s
less_part s u = common_left s (bit_not w64 (2 ^ u))

-- a set of routers that has none is empty
pub no_members : (n set : ℕ) → ((v : ℕ) → has set v ≡ true → v < n) → ((v : ℕ) → v < n → has set v ≡ false) → set ≡ 0
no_members n set inside none = same_sets set 0 (λ x. go x (has set x) refl ∙ sym (has_none x)) where
  go : (x : ℕ) (t : Bool) → has set x ≡ t → has set x ≡ false
  go x false is = is
  go x true is = none x (inside x is)

-- ---- arcs

pub number_or : (a b : ℕ) → (a ≡ b) ⊎ (a ≢ b)
number_or a b = grind arith

pub one_number : (a b : Arc) → number a ≡ number b → a ≡ b
one_number a b e = let s = sides a.down b.down a.link b.link e in λ i. record { link = s.0 i; down = s.1 i } where
  sides : (p q : Bool) (m n : ℕ) → 2 * m + side p ≡ 2 * n + side q → (m ≡ n) × (p ≡ q)
  sides true true m n e = (omega arith, refl)
  sides false false m n e = (omega arith, refl)
  sides true false m n e = absurd (omega arith)
  sides false true m n e = absurd (omega arith)

pub arc_or : (a b : Arc) → (a ≡ b) ⊎ (a ≢ b)
arc_or a b = elim (number_or (number a) (number b)) [
  | inl same ↦ inl (one_number a b same)
  | inr other ↦ inr (λ e. other (ap number e))
]

-- an arc comes before a later place, if it comes before the one or is it
pub earlier_arc : (a arc : Arc) → number a < number arc + 1 → (a ≡ arc) ⊎ (number a < number arc)
earlier_arc a arc h = elim (number_or (number a) (number arc)) [
  | inl same ↦ inl (one_number a arc same)
  | inr other ↦ inr (omega arith)
]

pub number_low : (arc : Arc) (n : ℕ) → arc.link < n → number arc < 2 * n
number_low arc n h = go arc.down where
  go : (b : Bool) → 2 * arc.link + side b < 2 * n
  go true = omega arith
  go false = omega arith

-- ---- sets of arcs

pub with_same : (set : ArcSet) (arc : Arc) → has_arc (with_arc set arc) arc ≡ true
with_same set arc = go arc.down where
  go : (b : Bool) → has_arc (with_arc set (record { link = arc.link; down = b })) (record { link = arc.link; down = b }) ≡ true
  go true = let e = has_more set.down arc.link arc.link in grind (arith, nat_tests)
  go false = let e = has_more set.up arc.link arc.link in grind (arith, nat_tests)

pub with_other : (set : ArcSet) (arc a : Arc) → a ≢ arc → has_arc (with_arc set arc) a ≡ has_arc set a
with_other set arc a other = go arc.down a.down (λ e f. other (λ i. record { link = e i; down = f i })) where
  off : (s m n : ℕ) → n ≢ m → has (bit_or s (2 ^ m)) n ≡ has s n
  off s m n h = let e = has_more s m n in grind (arith, nat_tests)

  go : (p q : Bool) → (a.link ≡ arc.link → q ≡ p → ⊥) →
      has_arc (with_arc set (record { link = arc.link; down = p })) (record { link = a.link; down = q }) ≡ has_arc set (record { link = a.link; down = q })
  go true true h = off set.down arc.link a.link (λ e. h e refl)
  go false false h = off set.up arc.link a.link (λ e. h e refl)
  go true false h = refl
  go false true h = refl

pub noted_more : (set : ArcSet) (arc : Arc) (row : Row) → IsInhabited row → IsNoted arc row set (with_arc set arc)
noted_more set arc row some = record {
  other = λ a h. with_other set arc a h;
  only = λ h. inr some;
  seen = λ h. with_same set arc;
}

pub noted_same : (set : ArcSet) (arc : Arc) (row : Row) → (has_arc set arc ≡ true) ⊎ (IsInhabited row → ⊥) → IsNoted arc row set set
noted_same set arc row known = record {
  other = λ a h. refl;
  only = λ h. inl h;
  seen = λ h. elim known [
    | inl is ↦ is
    | inr none ↦ elim h [
      | inl is ↦ is
      | inr some ↦ absurd (none some)
    ]
  ];
}
