-- Sets of numbers below 64, each seen as the word of 64 bits whose bit `n` is set where `n` is in the set.
use Rattle.std.specs.Prelude.{ℕ, ◌≡◌, ◌==◌, Bool, true, bit_and}
use Rattle.std.specs.Int.{bit_at}

-- whether the number is in the set; a number past 63 is in none
abbrev pub has : ℕ → ℕ → Bool
has set x = bit_at set x == 1

-- each number of the one set is in the other
pub record IsPart (a b : ℕ) : Type 0 where
  pub members : (x : ℕ) → has a x ≡ true → has b x ≡ true

-- whether the one set is a part of the other
abbrev pub is_part : ℕ → ℕ → Bool
is_part a b = bit_and a b == a
