-- The links that bring something to each router, and the arcs that a worker need not visit.
use Rattle.std.proofs.Common.{ℕ, ◌≡◌, ◌+◌, ◌*◌, ◌-◌, ◌/◌, ◌%◌, ◌<◌, ◌≤◌, ◌^◌, ◌||◌, ◌==◌, ◌≢◌, ◌⊎◌, inl, inr, Bool, true, false, List, length, get_or, slice_set, bit_or, arith, ap, sym, subst, ◌∙◌}
use Rattle.std.proofs.lemmas.Bool.Decides.{nat_tests}
use Rattle.std.proofs.lemmas.Nat.{shr-shr, shr_below, shr_le}
use Rattle.std.proofs.lemmas.Nat.Bits.{bit_at-trailing_zeros, bit_at-zero, bit_at_above}
use Rattle.std.specs.Int.{bit_at, trailing_zeros, w64}
use Rattle.std.proofs.lemmas.List.{get_or-set_other, get_or-set_same, get_or_default, length-set}
use Rattle.net_types.specs.declared.arcs.Arc.{Arc}
use Rattle.net_types.specs.Arcs.{down_of, up_of}
use Rattle.net_types.specs.Sets.{has}
use Rattle.abstract_route.specs.declared.rows.Row.{Row}
use Rattle.possible_fixpoint.specs.declared.notes.Notes.{Notes}
use Rattle.possible_fixpoint.specs.Arrivals.{AreArrivals, set_at}
use Rattle.possible_fixpoint.specs.Flow.{Flow}
use Rattle.possible_fixpoint.specs.Marks.{number, side}
use Rattle.possible_fixpoint.specs.Standing.{Solvable}
use Rattle.possible_fixpoint.specs.Working.{Gathers}
use Rattle.possible_fixpoint.proofs.BitLemmas.{earlier_arc, has_more, number_low, number_or}
use Rattle.possible_fixpoint.proofs.NoteLemmas.{clash}
use Rattle.possible_fixpoint.proofs.VisitLemmas.{number_down, number_up}

-- ---- the sets

pub no_arrivals : (flow : Flow) (sets : List ℕ) → length sets ≡ 64 → AreArrivals flow 0 sets
no_arrivals flow sets long = record { long = long; all = λ arc h lives. absurd (omega arith) }

pub arrivals_at : (flow : Flow) (m n : ℕ) (sets : List ℕ) → m ≡ n → AreArrivals flow m sets → AreArrivals flow n sets
arrivals_at flow m n sets same a = subst (λ (k : ℕ). AreArrivals flow k sets) same a

more_has : (s v : ℕ) → has (bit_or s (2 ^ v)) v ≡ true
more_has s v = let e = has_more s v v in grind (arith, nat_tests)

more_keeps : (s v x : ℕ) → has s x ≡ true → has (bit_or s (2 ^ v)) x ≡ true
more_keeps s v x h = has_more s v x ∙ ap (λ (b : Bool). b || (x == v)) h

-- a read within the list, in the terms of the code
pub read_set : (sets : List ℕ) (u v read : ℕ) → u < length sets → u ≡ v → get_or sets u read ≡ set_at sets v
read_set sets u v read h same = get_or_default sets u read 0 h ∙ ap (λ (n : ℕ). set_at sets n) same

-- one more arc that lives
pub noted : (flow : Flow) (arc : Arc) (sets : List ℕ) (u set : ℕ) → Solvable flow → flow.lives arc ≡ true → u ≡ flow.receiver arc
    → set ≡ bit_or (set_at sets u) (2 ^ arc.link) → AreArrivals flow (number arc) sets → AreArrivals flow (number arc + 1) (slice_set sets u set)
noted flow arc sets u set solvable lives to is before = record {
  long = length-set sets u set ∙ before.long;
  all = λ x low alive. elim (earlier_arc x arc low) [
    | inl same ↦ subst (λ (y : Arc). has (set_at (slice_set sets u set) (flow.receiver y)) y.link ≡ true) (sym same) now
    | inr less ↦ kept (flow.receiver x) x.link (before.all x less alive)
  ];
} where
  inside : u < length sets
  inside = let a = solvable.lawful.receiver arc lives in let b = solvable.few in let c = before.long in omega arith

  here : set_at (slice_set sets u set) u ≡ bit_or (set_at sets u) (2 ^ arc.link)
  here = get_or-set_same sets u set 0 inside ∙ is

  now : has (set_at (slice_set sets u set) (flow.receiver arc)) arc.link ≡ true
  now = subst (λ (n : ℕ). has (set_at (slice_set sets u set) n) arc.link ≡ true) to
      (ap (λ (n : ℕ). has n arc.link) here ∙ more_has (set_at sets u) arc.link)

  kept : (v link : ℕ) → has (set_at sets v) link ≡ true → has (set_at (slice_set sets u set) v) link ≡ true
  kept v link h = elim (number_or v u) [
    | inl same ↦ subst (λ (n : ℕ). has (set_at (slice_set sets u set) n) link ≡ true) (sym same)
        (ap (λ (n : ℕ). has n link) here ∙ more_keeps (set_at sets u) arc.link link (subst (λ (n : ℕ). has (set_at sets n) link ≡ true) same h))
    | inr other ↦ ap (λ (n : ℕ). has n link) (get_or-set_other sets u v set 0 other) ∙ h
  ]

-- the same, in the terms of the code
pub noted_read : (flow : Flow) (arc : Arc) (sets : List ℕ) (receiver u read set : ℕ) → Solvable flow → flow.lives arc ≡ true → receiver ≡ flow.receiver arc → u ≡ receiver
    → set ≡ bit_or (get_or sets u read) (2 ^ arc.link) → AreArrivals flow (number arc) sets → AreArrivals flow (number arc + 1) (slice_set sets u set)
noted_read flow arc sets receiver u read set solvable lives to at is before =
    noted flow arc sets u set solvable lives (at ∙ to) (is ∙ ap (λ (n : ℕ). bit_or n (2 ^ arc.link)) (get_or_default sets u read 0 inside)) before where
      inside : u < length sets
      inside = let a = solvable.lawful.receiver arc lives in let b = solvable.few in let c = before.long in let d = to in let e = at in omega arith

-- one more arc that does not
pub not_noted : (flow : Flow) (arc : Arc) (sets : List ℕ) → flow.lives arc ≡ false → AreArrivals flow (number arc) sets → AreArrivals flow (number arc + 1) sets
not_noted flow arc sets dead before = record {
  long = before.long;
  all = λ x low alive. elim (earlier_arc x arc low) [
    | inl same ↦ clash (sym (subst (λ (y : Arc). flow.lives y ≡ true) same alive) ∙ dead)
    | inr less ↦ before.all x less alive
  ];
}

-- both arcs of a link
pub from_link : (flow : Flow) (link : ℕ) (up : Arc) (sets : List ℕ) → up ≡ up_of link → AreArrivals flow (2 * link) sets → AreArrivals flow (number up) sets
from_link flow link up sets is a = arrivals_at flow (2 * link) (number up) sets (sym (number_up up link is)) a

pub to_other : (flow : Flow) (link : ℕ) (up down : Arc) (sets : List ℕ) → up ≡ up_of link → down ≡ down_of link → AreArrivals flow (number up + 1) sets → AreArrivals flow (number down) sets
to_other flow link up down sets is_up is_down a =
    arrivals_at flow (number up + 1) (number down) sets (let e = number_up up link is_up in let d = number_down down link is_down in omega arith) a

pub past_link : (flow : Flow) (link : ℕ) (down : Arc) (sets : List ℕ) → down ≡ down_of link → AreArrivals flow (number down + 1) sets → AreArrivals flow (2 * (link + 1)) sets
past_link flow link down sets is a = arrivals_at flow (number down + 1) (2 * (link + 1)) sets (let d = number_down down link is in omega arith) a

-- ---- the next member of a set

before_or : (n middle : ℕ) → (n < middle) ⊎ (middle ≤ n)
before_or n middle = grind arith

-- the bits of a word past a place are those of the word shifted
shifted_bit : (w k i : ℕ) → bit_at (w / 2 ^ k) i ≡ bit_at w (k + i)
shifted_bit w k i = ap (λ (n : ℕ). n % 2) (shr-shr w k i)

off : (n : ℕ) → n ≡ 0 → (n == 1) ≡ false
off n e = grind (arith, nat_tests)

not_one : (n : ℕ) → n ≡ 1 → n ≡ 0 → ⊥
not_one n a b = omega arith

-- what has no bit behind a place in the shifted word lacks the number
lacks_shifted : (w set from x : ℕ) → w ≡ set → from ≤ x → bit_at (w / 2 ^ from) (x - from) ≡ 0 → has set x ≡ false
lacks_shifted w set from x same h none = off (bit_at set x) (ap (λ (n : ℕ). bit_at n x) (sym same) ∙ ap (λ (n : ℕ). bit_at w n) (place from x h) ∙ sym (shifted_bit w from (x - from)) ∙ none) where
  place : (a b : ℕ) → a ≤ b → b ≡ a + (b - a)
  place a b l = omega arith

pub none_from : (w set from : ℕ) → w ≡ set → w / 2 ^ from ≡ 0 → (x : ℕ) → from ≤ x → has set x ≡ false
none_from w set from same empty x h = lacks_shifted w set from x same h (ap (λ (n : ℕ). bit_at n (x - from)) empty ∙ bit_at-zero (x - from))

some : (n : ℕ) → (n ≡ 0 → ⊥) → 0 < n
some n h = go (number_or n 0) where
  go : (n ≡ 0) ⊎ (n ≢ 0) → 0 < n
  go (inl z) = absurd (h z)
  go (inr other) = omega arith

small_shift : (w k : ℕ) → w < 2 ^ 64 → w / 2 ^ k < 2 ^ 64
small_shift w k h = let l = shr_le w k in omega arith

pub first_within : (w from : ℕ) → from < 64 → w < 2 ^ 64 → (w / 2 ^ from ≡ 0 → ⊥) → from + trailing_zeros w64 (w / 2 ^ from) ≤ 64
first_within w from low small there = go (before_or (trailing_zeros w64 (w / 2 ^ from)) (64 - from)) where
  found : bit_at (w / 2 ^ from) (trailing_zeros w64 (w / 2 ^ from)) ≡ 1
  found = (bit_at-trailing_zeros w64 (w / 2 ^ from) (some (w / 2 ^ from) there) (small_shift w from small)).1

  high : w / 2 ^ from < 2 ^ (64 - from)
  high = shr_below w (64 - from) from (subst (λ (n : ℕ). w < 2 ^ n) (back from low) small) where
    back : (k : ℕ) → k < 64 → 64 ≡ (64 - k) + k
    back k l = omega arith

  go : (trailing_zeros w64 (w / 2 ^ from) < 64 - from) ⊎ (64 - from ≤ trailing_zeros w64 (w / 2 ^ from)) → from + trailing_zeros w64 (w / 2 ^ from) ≤ 64
  go (inl before) = omega arith
  go (inr after) = absurd (not_one (bit_at (w / 2 ^ from) (trailing_zeros w64 (w / 2 ^ from))) found (bit_at_above (w / 2 ^ from) (64 - from) (trailing_zeros w64 (w / 2 ^ from)) high after))

pub none_before : (w set from : ℕ) → w ≡ set → w < 2 ^ 64 → (w / 2 ^ from ≡ 0 → ⊥) → (x : ℕ) → from ≤ x → x < from + trailing_zeros w64 (w / 2 ^ from) → has set x ≡ false
none_before w set from same small there x low high =
    lacks_shifted w set from x same low ((bit_at-trailing_zeros w64 (w / 2 ^ from) (some (w / 2 ^ from) there) (small_shift w from small)).2 (x - from) (omega arith))

-- ---- the arcs passed over

link_within : (arc : Arc) (from to : ℕ) → 2 * from ≤ number arc → number arc < 2 * to → (from ≤ arc.link) × (arc.link < to)
link_within arc from to low high = go arc.down low high where
  go : (b : Bool) → 2 * from ≤ 2 * arc.link + side b → 2 * arc.link + side b < 2 * to → (from ≤ arc.link) × (arc.link < to)
  go true l h = (omega arith, omega arith)
  go false l h = (omega arith, omega arith)

-- links that bring the router nothing need no visit
pub gathers_past : (flow : Flow) (start : List Row) (u from to : ℕ) (sets : List ℕ) (set : ℕ) (a b : Notes) (grew : Bool) → Solvable flow
    → AreArrivals flow (2 * flow.links) sets → set ≡ set_at sets u → ((x : ℕ) → from ≤ x → x < to → has set x ≡ false)
    → Gathers flow start u 0 (2 * from) a b grew → Gathers flow start u 0 (2 * to) a b grew
gathers_past flow start u from to sets set a b grew solvable arrivals is none g = record {
  kept = g.kept;
  grows = g.grows;
  fed = λ x low high alive here. elim (before_or (number x) (2 * from)) [
    | inl before ↦ g.fed x low before alive here
    | inr after ↦
        let within = link_within x from to after high in
        let there : has (set_at sets u) x.link ≡ true = subst (λ (n : ℕ). has (set_at sets n) x.link ≡ true) here
        (arrivals.all x (number_low x flow.links (solvable.lawful.link x alive)) alive) in
        clash (sym (ap (λ (n : ℕ). has n x.link) is ∙ there) ∙ none x.link within.0 within.1)
  ];
}

pub gathers_within : (flow : Flow) (start : List Row) (u next most : ℕ) (a b : Notes) (grew : Bool) → most ≤ next → Gathers flow start u 0 next a b grew
    → Gathers flow start u 0 most a b grew
gathers_within flow start u next most a b grew h g = record {
  kept = g.kept;
  grows = g.grows;
  fed = λ x low high alive here. g.fed x low (omega arith) alive here;
}
