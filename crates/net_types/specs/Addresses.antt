-- IPv4 addresses and prefixes as they are read: four decimals from 0 to 255 between points.
use Rattle.std.specs.Prelude.{ℕ, ◌+◌, ◌*◌, List, [], ◌∷◌, Option, Some, None, option_and_then}
use Rattle.net_types.specs.Cut.{parts}
use Rattle.net_types.specs.Numerals.{number_in}
use Rattle.net_types.specs.PrefixValue.{PrefixValue}
use Rattle.net_types.specs.Masks.{masked}

-- the number of four bytes, the greatest place first
abbrev pub of_octets : Option ℕ → Option ℕ → Option ℕ → Option ℕ → Option ℕ
of_octets (Some a) (Some b) (Some c) (Some d) = Some (((a * 256 + b) * 256 + c) * 256 + d)
of_octets _ _ _ _ = None

abbrev pub octet : List ℕ → Option ℕ
octet part = number_in 0 255 part

abbrev pub address_of_parts : List (List ℕ) → Option ℕ
address_of_parts (a ∷ b ∷ c ∷ d ∷ []) = of_octets (octet a) (octet b) (octet c) (octet d)
address_of_parts _ = None

-- the address of a text: four decimals from 0 to 255, without leading zeros, joined by points
abbrev pub address_of : List ℕ → Option ℕ
address_of text = address_of_parts (parts 46 text)

abbrev pub with_length : ℕ → Option ℕ → Option (ℕ × PrefixValue)
with_length address (Some len) = Some (address, masked address len)
with_length address None = None

abbrev pub interface_of_parts : List (List ℕ) → Option (ℕ × PrefixValue)
interface_of_parts (address ∷ len ∷ []) = option_and_then (λ a. with_length a (number_in 0 32 len)) (address_of address)
interface_of_parts _ = None

-- an interface's address and its prefix: an address, `/`, and a length from 0 to 32
abbrev pub interface_of : List ℕ → Option (ℕ × PrefixValue)
interface_of text = interface_of_parts (parts 47 text)
