-- Rows: what is known of the routes that may come to a router, and their order. All of this is the project's own.
use Rattle.std.specs.Prelude.{ℕ, ◌≡◌, ◌<◌, ◌≤◌, ◌^◌, ◌||◌, ◌&&◌, nat_le, Bool, true, min, max, bit_or, bit_and, List, slice_index_or}
use Rattle.net_types.specs.Sets.{has, is_part, IsPart}
use Rattle.abstract_route.specs.declared.rows.Row.{Row}
use Rattle.abstract_route.specs.declared.rows.Range.{Range}

-- the one range lies in the other, word by word
abbrev pub Lies : Range → Range → Type 0
Lies a b = (b.low ≤ a.low) × (a.high ≤ b.high)

-- the row a is below b: b leaves open all that a leaves open
pub record IsBelow (a b : Row) : Type 0 where
  pub weight : Lies a.weight b.weight
  pub preference : Lies a.preference b.preference
  pub length : Lies a.length b.length
  pub origin : Lies a.origin b.origin
  pub med : Lies a.med b.med
  pub has : IsPart a.has b.has
  pub lacks : IsPart a.lacks b.lacks
  pub may : IsPart a.may b.may
  pub must : IsPart b.must a.must

-- the least row above both
pub record IsJoin (a b j : Row) : Type 0 where
  pub left : IsBelow a j
  pub right : IsBelow b j
  pub least : (c : Row) → IsBelow a c → IsBelow b c → IsBelow j c

-- the least range that both lie in
abbrev pub hull_of : Range → Range → Range
hull_of a b = record { low = min a.low b.low; high = max a.high b.high }

-- a value that is the least row above both, see `law_of_joins`
abbrev pub joined : Row → Row → Row
joined a b = record {
  weight = hull_of a.weight b.weight;
  preference = hull_of a.preference b.preference;
  length = hull_of a.length b.length;
  origin = hull_of a.origin b.origin;
  med = hull_of a.med b.med;
  has = bit_or a.has b.has;
  lacks = bit_or a.lacks b.lacks;
  may = bit_or a.may b.may;
  must = bit_and a.must b.must;
}

-- the empty range that lies in each range of 64-bit numbers: from the greatest of them down to 0
abbrev pub nowhere : Range
nowhere = record { low = 18446744073709551615; high = 0 }

-- the least row, of no route; other rows have none too
abbrev pub bottom : Row
bottom = record {
  weight = nowhere;
  preference = nowhere;
  length = nowhere;
  origin = nowhere;
  med = nowhere;
  has = 0;
  lacks = 0;
  may = 0;
  must = 18446744073709551615;
}

-- a router's row in a list of rows
abbrev pub row_at : List Row → ℕ → Row
row_at rows u = slice_index_or rows u bottom

-- each word of the row is a number of 64 bits
pub record IsRow (r : Row) : Type 0 where
  pub low : (r.weight.low < 2 ^ 64) × (r.preference.low < 2 ^ 64) × (r.length.low < 2 ^ 64) × (r.origin.low < 2 ^ 64) × (r.med.low < 2 ^ 64)
  pub high : (r.weight.high < 2 ^ 64) × (r.preference.high < 2 ^ 64) × (r.length.high < 2 ^ 64) × (r.origin.high < 2 ^ 64) ×
      (r.med.high < 2 ^ 64)
  pub sets : (r.has < 2 ^ 64) × (r.lacks < 2 ^ 64) × (r.may < 2 ^ 64) × (r.must < 2 ^ 64)

-- the range of one number
abbrev pub single : ℕ → Range
single n = record { low = n; high = n }

-- the row that a learned route is kept in: the MED that it is announced with in turn is 0
abbrev pub carried_row : Row → Row
carried_row row = record row { med = single 0 }

-- some number is in the range
abbrev pub IsSome : Range → Type 0
IsSome r = r.low ≤ r.high

-- no part of the row rules out every route
pub record IsInhabited (row : Row) : Type 0 where
  pub weight : IsSome row.weight
  pub preference : IsSome row.preference
  pub length : IsSome row.length
  pub origin : IsSome row.origin
  pub med : IsSome row.med
  -- each community is held or lacked
  pub communities : (x : ℕ) → x < 64 → (has row.has x || has row.lacks x) ≡ true
  pub routers : IsPart row.must row.may

-- the same as a test, see `law_of_inhabited_rows`
abbrev pub inhabited : Row → Bool
inhabited row =
    nat_le row.weight.low row.weight.high &&
    nat_le row.preference.low row.preference.high &&
    nat_le row.length.low row.length.high &&
    nat_le row.origin.low row.origin.high &&
    nat_le row.med.low row.med.high &&
    is_part 18446744073709551615 (bit_or row.has row.lacks) &&
    is_part row.must row.may
