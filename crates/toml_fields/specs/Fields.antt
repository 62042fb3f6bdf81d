-- The fields of a table of TOML: what stands at a key, where it is of the kind that is wanted.
use Rattle.std.specs.Prelude.{ℕ, ◌&&◌, nat_le, Bool, true, List as Seq, Option, Some, None, option_and_then, ℤ, pos, negsuc, if◌then◌else◌}
use Rattle.std.specs.List.{list_any}
use Rattle.toml.specs.Data.{Items, Members, no_members, member, as_str, as_integer, as_array, get_member}
use Rattle.net_types.specs.PrefixValue.{PrefixValue}
use Rattle.net_types.specs.Prefixes.{prefix_of}
use Rattle.net_types.specs.Names.{is_host}
use Rattle.net_types.specs.Order.{same_text}

-- the text at a key
abbrev pub text_at : Seq ℕ → Members → Option (Seq ℕ)
text_at key fields = option_and_then as_str (get_member key fields)

-- the name of a host at a key
abbrev pub if_host : Seq ℕ → Option (Seq ℕ)
if_host text = if is_host text then Some text else None

abbrev pub host_at : Seq ℕ → Members → Option (Seq ℕ)
host_at key fields = option_and_then if_host (text_at key fields)

-- the prefix at a key
abbrev pub prefix_at : Seq ℕ → Members → Option PrefixValue
prefix_at key fields = option_and_then prefix_of (text_at key fields)

-- the integer at a key
abbrev pub integer_at : Seq ℕ → Members → Option ℤ
integer_at key fields = option_and_then as_integer (get_member key fields)

-- an integer from low to high, both counted
abbrev pub within : ℕ → ℕ → ℤ → Option ℕ
within low high (pos n) = if nat_le low n && nat_le n high then Some n else None
within low high (negsuc n) = None

-- the number at a key, from low to high
abbrev pub number_at : ℕ → ℕ → Seq ℕ → Members → Option ℕ
number_at low high key fields = option_and_then (within low high) (integer_at key fields)

-- the items of the array at a key
abbrev pub array_at : Seq ℕ → Members → Option Items
array_at key fields = option_and_then as_array (get_member key fields)

-- whether the key is one of these
abbrev pub is_one_of : Seq (Seq ℕ) → Seq ℕ → Bool
is_one_of keys key = list_any (λ known. same_text known key) keys

-- whether each key of the table is one of these
abbrev pub has_only : Seq (Seq ℕ) → Members → Bool
has_only keys no_members = true
has_only keys (member key value more) = is_one_of keys key && has_only keys more
