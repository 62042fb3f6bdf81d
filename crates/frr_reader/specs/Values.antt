-- The values of a line: what its words behind the row's head say.
use Rattle.std.specs.Prelude.{ℕ, Bool, true, false, ◌||◌, ◌&&◌, nat_le, List, [], ◌∷◌, codes, Option, Some, None, option_and_then, if◌then◌else◌}
use Rattle.net_types.specs.Names.{is_host}
use Rattle.net_types.specs.Numerals.{number_in}
use Rattle.net_types.specs.Addresses.{interface_of}
use Rattle.net_types.specs.PrefixValue.{PrefixValue}
use Rattle.net_types.specs.Order.{same_text}
use Rattle.frr_policy.specs.Values.{masked_prefix_of, positive_of}

-- HOST: the name of a host
abbrev pub host_of : List ℕ → Option (List ℕ)
host_of word = if is_host word then Some word else None

-- the backbone area, which is the only one: `0` or `0.0.0.0`
abbrev pub area_of : List ℕ → Option ℕ
area_of word = if same_text (codes "0") word || same_text (codes "0.0.0.0") word then Some 0 else None

-- AS: a number from 1 to 4294967295
abbrev pub as_of : List ℕ → Option ℕ
as_of word = positive_of word

-- an OSPF cost: a number from 1 to 65535
abbrev pub cost_of : List ℕ → Option ℕ
cost_of word = number_in 1 65535 word

abbrev pub with_a_length : ℕ × PrefixValue → Option (ℕ × PrefixValue)
with_a_length a = if nat_le 1 a.1.len then Some a else None

-- an interface's address with a length from 1 to 32, and its subnet
abbrev pub interface_address_of : List ℕ → Option (ℕ × PrefixValue)
interface_address_of word = option_and_then with_a_length (interface_of word)

-- a rest without words
abbrev pub is_nothing : List (List ℕ) → Bool
is_nothing [] = true
is_nothing (_ ∷ _) = false

-- the one word of a rest that has no other
abbrev pub only : List (List ℕ) → Option (List ℕ)
only [] = None
only (word ∷ []) = Some word
only (_ ∷ _ ∷ _) = None

-- the two words of a rest that has no other
abbrev pub two : List (List ℕ) → Option (List ℕ × List ℕ)
two (first ∷ second ∷ []) = Some (first, second)
two _ = None

-- a rest that is one value
abbrev pub one : {A : Type 0} → (List ℕ → Option A) → List (List ℕ) → Option A
one value rest = option_and_then value (only rest)

-- a rest that is PFX, `area` and the area
abbrev pub network_of : List (List ℕ) → Option PrefixValue
network_of (prefix ∷ word ∷ area ∷ []) =
    if same_text (codes "area") word then option_and_then (λ _. masked_prefix_of prefix) (area_of area) else None
network_of _ = None

-- the address family, which is the only one: `ipv4`, or `ipv4` and `unicast`
abbrev pub is_unicast : List (List ℕ) → Bool
is_unicast (family ∷ []) = same_text (codes "ipv4") family
is_unicast (family ∷ word ∷ []) = same_text (codes "ipv4") family && same_text (codes "unicast") word
is_unicast _ = false
