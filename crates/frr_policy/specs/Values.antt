-- The values of a line: what one of its words says.
use Rattle.std.specs.Prelude.{ℕ, Bool, true, false, List, codes, Option, Some, None, option_map, if◌then◌else◌}
use Rattle.net_types.specs.Names.{is_name}
use Rattle.net_types.specs.Numerals.{number_in}
use Rattle.net_types.specs.Addresses.{interface_of}
use Rattle.net_types.specs.PrefixValue.{PrefixValue}
use Rattle.net_types.specs.Order.{same_text}

-- NAME: the name of an interface, a list or a map
abbrev pub name_of : List ℕ → Option (List ℕ)
name_of word = if is_name word then Some word else None

-- ACT: `permit` or `deny`, as whether it is `permit`
abbrev pub action_of : List ℕ → Option Bool
action_of word =
    if same_text (codes "permit") word then Some true else (if same_text (codes "deny") word then Some false else None)

-- NUM 1 to 4294967295: a sequence number of a list, an AS number
abbrev pub positive_of : List ℕ → Option ℕ
positive_of word = number_in 1 4294967295 word

-- U32: NUM 0 to 4294967295
abbrev pub u32_of : List ℕ → Option ℕ
u32_of word = number_in 0 4294967295 word

-- NUM 1 to 65535: a sequence number of a route map
abbrev pub map_number_of : List ℕ → Option ℕ
map_number_of word = number_in 1 65535 word

-- NUM 1 to 99: the number of a list, which is its name
abbrev pub list_number_of : List ℕ → Option ℕ
list_number_of word = number_in 1 99 word

-- NUM 0 to 32: the length of a prefix
abbrev pub length_of : List ℕ → Option ℕ
length_of word = number_in 0 32 word

-- PFX: an address, `/` and a length from 0 to 32; the bits past the length are cleared
abbrev pub masked_prefix_of : List ℕ → Option PrefixValue
masked_prefix_of word = option_map (λ a. a.1) (interface_of word)
