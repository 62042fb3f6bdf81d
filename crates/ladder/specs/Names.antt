-- The host names of a ladder: an `a` or a `b`, and the column in two digits.
use Rattle.std.specs.Prelude.{ℕ, ◌-◌, ◌/◌, ◌%◌, nat_lt, List as Seq, codes, if◌then◌else◌}
use Rattle.std.specs.Fmt.{decimal}
use Rattle.net_types.specs.Then.{◌then◌}

-- a number below 100 in two digits
abbrev pub two_digits : ℕ → Seq ℕ
two_digits number = decimal (number / 10) then decimal (number % 10)

-- the host name of a router: those of the a's come before those of the b's
unfoldable pub host_name : ℕ → ℕ → Seq ℕ
host_name columns router =
    if nat_lt router columns then codes "a" then two_digits router else codes "b" then two_digits (router - columns)
