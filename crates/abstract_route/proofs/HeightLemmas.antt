-- The rank of a row rises with the row and is bounded; the row of no route; rows of 64-bit words.
use Rattle.std.proofs.Common.{ℕ, ◌≡◌, ◌-◌, ◌*◌, ◌^◌, ◌<◌, ◌≤◌, ◌⊎◌, inl, inr, min, max, bit_and, arith, sym, lit<}
use Rattle.std.proofs.lemmas.Bool.Decides.{nat_tests}
use Rattle.std.proofs.lemmas.Nat.{and_le_l, or_lt}
use Rattle.std.proofs.lemmas.Nat.Bits.{bit_at_above, bit_at_ones}
use Rattle.net_types.specs.Sets.{IsPart}
use Rattle.net_types.proofs.SetLemmas.{part_le, bit_from}
use Rattle.abstract_route.specs.declared.rows.Row.{Row}
use Rattle.abstract_route.specs.declared.rows.Range.{Range}
use Rattle.abstract_route.specs.Rows.{IsBelow, IsRow, bottom, joined, Lies}
use Rattle.abstract_route.specs.Heights.{range_rank, row_rank}
use Rattle.abstract_route.proofs.RowLemmas.{range_same, row_same}

range_up : (a b : Range) → Lies a b → range_rank a ≤ range_rank b
unfolding range_rank
range_up a b h = omega arith

range_even : (a b : Range) → a.low < 2 ^ 64 → b.low < 2 ^ 64 → Lies a b → range_rank b ≤ range_rank a → a ≡ b
unfolding range_rank
range_even a b p q h e = range_same a b (omega arith) (omega arith)

range_small : (a : Range) → a.high < 2 ^ 64 → range_rank a ≤ 36893488147419103230
unfolding range_rank
range_small a h = omega arith

-- the complement of the routers on every path
abbrev must_rank : ℕ → ℕ
must_rank s = 18446744073709551615 - s

must_up : (a b : ℕ) → IsPart b a → must_rank a ≤ must_rank b
must_up a b h = let e = part_le b a h in omega arith

must_even : (a b : ℕ) → a < 2 ^ 64 → b < 2 ^ 64 → IsPart b a → must_rank b ≤ must_rank a → b ≡ a
must_even a b p q h e = let f = part_le b a h in omega arith

must_small : (a : ℕ) → must_rank a ≤ 18446744073709551615
must_small a = omega arith

pub rank_up : (a b : Row) → IsBelow a b → row_rank a ≤ row_rank b
unfolding row_rank
rank_up a b h =
    let e1 = range_up a.weight b.weight h.weight in let e2 = range_up a.preference b.preference h.preference in
    let e3 = range_up a.length b.length h.length in let e4 = range_up a.origin b.origin h.origin in
    let e5 = range_up a.med b.med h.med in let e6 = part_le a.has b.has h.has in let e7 = part_le a.lacks b.lacks h.lacks in
    let e8 = part_le a.may b.may h.may in let e9 = must_up a.must b.must h.must in omega arith

-- a row that is below another of the same rank is the same row
pub rank_even : (a b : Row) → IsRow a → IsRow b → IsBelow a b → row_rank b ≤ row_rank a → a ≡ b
unfolding row_rank
rank_even a b p q h e =
    let e1 = range_up a.weight b.weight h.weight in let e2 = range_up a.preference b.preference h.preference in
    let e3 = range_up a.length b.length h.length in let e4 = range_up a.origin b.origin h.origin in
    let e5 = range_up a.med b.med h.med in let e6 = part_le a.has b.has h.has in let e7 = part_le a.lacks b.lacks h.lacks in
    let e8 = part_le a.may b.may h.may in let e9 = must_up a.must b.must h.must in
    row_same a b
    (range_even a.weight b.weight p.low.0 q.low.0 h.weight (omega arith))
    (range_even a.preference b.preference p.low.1 q.low.1 h.preference (omega arith))
    (range_even a.length b.length p.low.2 q.low.2 h.length (omega arith))
    (range_even a.origin b.origin p.low.3 q.low.3 h.origin (omega arith))
    (range_even a.med b.med p.low.4 q.low.4 h.med (omega arith))
    (omega arith) (omega arith) (omega arith) (sym (must_even a.must b.must p.sets.3 q.sets.3 h.must (omega arith)))

pub rank_small : (a : Row) → IsRow a → row_rank a < 14 * 2 ^ 64
unfolding row_rank
rank_small a h =
    let e1 = range_small a.weight h.high.0 in let e2 = range_small a.preference h.high.1 in let e3 = range_small a.length h.high.2 in
    let e4 = range_small a.origin h.high.3 in let e5 = range_small a.med h.high.4 in let e6 = must_small a.must in omega arith

empty_part : (s : ℕ) → IsPart 0 s
empty_part s = record { members = λ x h. absurd (let e = bit_from 0 x h in let f = bit_at_above 0 0 x (lit< tt) (omega arith) in omega arith) }

full_part : (s : ℕ) → s < 2 ^ 64 → IsPart s 18446744073709551615
full_part s h = record {
  members = λ x t. elim (below_or_not x) [
    | inl low ↦ let e = bit_at_ones 64 x low in grind (arith, nat_tests)
    | inr high ↦ absurd (let e = bit_from s x t in let f = bit_at_above s 64 x h high in omega arith)
  ];
} where
  below_or_not : (x : ℕ) → (x < 64) ⊎ (64 ≤ x)
  below_or_not x = grind arith

pub bottom_below : (r : Row) → IsRow r → IsBelow bottom r
bottom_below r h = record {
  weight = (omega arith, omega arith);
  preference = (omega arith, omega arith);
  length = (omega arith, omega arith);
  origin = (omega arith, omega arith);
  med = (omega arith, omega arith);
  has = empty_part r.has;
  lacks = empty_part r.lacks;
  may = empty_part r.may;
  must = full_part r.must h.sets.3;
}

pub bottom_is_row : IsRow bottom
bottom_is_row = record { low = (lit< tt, lit< tt, lit< tt, lit< tt, lit< tt); high = (lit< tt, lit< tt, lit< tt, lit< tt, lit< tt); sets = (lit< tt, lit< tt, lit< tt, lit< tt) }

min_low : (a b : ℕ) → a < 2 ^ 64 → b < 2 ^ 64 → (min a b < 2 ^ 64)
min_low a b p q = omega arith

max_low : (a b : ℕ) → a < 2 ^ 64 → b < 2 ^ 64 → (max a b < 2 ^ 64)
max_low a b p q = omega arith

and_low : (a b : ℕ) → a < 2 ^ 64 → bit_and a b < 2 ^ 64
and_low a b p = let e = and_le_l a b in omega arith

pub joined_is_row : (a b : Row) → IsRow a → IsRow b → IsRow (joined a b)
joined_is_row a b p q = record {
  low = (min_low a.weight.low b.weight.low p.low.0 q.low.0, min_low a.preference.low b.preference.low p.low.1 q.low.1, min_low a.length.low b.length.low p.low.2 q.low.2, min_low a.origin.low b.origin.low p.low.3 q.low.3, min_low a.med.low b.med.low p.low.4 q.low.4);
  high = (max_low a.weight.high b.weight.high p.high.0 q.high.0, max_low a.preference.high b.preference.high p.high.1 q.high.1, max_low a.length.high b.length.high p.high.2 q.high.2, max_low a.origin.high b.origin.high p.high.3 q.high.3, max_low a.med.high b.med.high p.high.4 q.high.4);
  sets = (or_lt 64 a.has b.has p.sets.0 q.sets.0, or_lt 64 a.lacks b.lacks p.sets.1 q.sets.1, or_lt 64 a.may b.may p.sets.2 q.sets.2, and_low a.must b.must p.sets.3);
}
