-- IPv4 addresses and prefixes as they are written.
use Rattle.std.specs.Prelude.{ℕ, ◌/◌, ◌%◌, ◌^◌, ◌*◌, List, codes}
use Rattle.std.specs.Fmt.{decimal}
use Rattle.net_types.specs.PrefixValue.{PrefixValue}
use Rattle.net_types.specs.Then.{◌then◌}

-- the byte of an address at this place, the lowest being at place 0
abbrev pub byte_at : ℕ → ℕ → ℕ
byte_at address place = address / 2 ^ (8 * place) % 256

-- an address: its four bytes in decimal, the highest first, joined by points
unfoldable pub address_text : ℕ → List ℕ
address_text a =
    decimal (byte_at a 3) then codes "." then decimal (byte_at a 2) then
    codes "." then decimal (byte_at a 1) then codes "." then decimal (byte_at a 0)

-- a prefix: its first address, `/`, and its length
unfoldable pub prefix_text : PrefixValue → List ℕ
prefix_text p = address_text p.bits then codes "/" then decimal p.len
