-- Decimal numbers of a head.
use Rattle.std.specs.Prelude.{ℕ, ◌^◌, ◌&&◌, Bool, false, List, [], ◌∷◌, Option, Some, None, nat_lt, if◌then◌else◌}
use Rattle.std.specs.List.{list_all}
use Rattle.net_types.specs.Numerals.{is_digit, is_numeral, value}

-- the number of a review: decimal, without a leading zero, and below 2^64
abbrev pub number_of : List ℕ → Option ℕ
number_of text = if is_numeral text && nat_lt (value text) (2 ^ 64) then Some (value text) else None

-- a length is written in one or more digits alone
abbrev pub is_length : List ℕ → Bool
is_length [] = false
is_length (d ∷ more) = list_all is_digit (d ∷ more)
