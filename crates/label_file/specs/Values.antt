-- The values of a label's table, beside its source: what stands at a key, where it is of the right kind and
-- in range for this network.
use Rattle.std.specs.Prelude.{ℕ, nat_lt, List as Seq, length, Option, Some, None, option_map, option_and_then, if◌then◌else◌}
use Rattle.toml.specs.Data.{Data, Items, Members, as_str}
use Rattle.net_types.specs.declared.config.Origin.{Origin}
use Rattle.net_types.specs.NetValue.{NetValue}
use Rattle.net_types.specs.Numbering.{router_number}
use Rattle.net_types.specs.Routes.{origin_of}
use Rattle.toml_fields.specs.Fields.{text_at, number_at, array_at}
use Rattle.toml_fields.specs.Tables.{each_of}
use Rattle.label_file.specs.Communities.{community_in, set_of}

-- the router whose host stands at a key
abbrev pub router_at : NetValue → Seq ℕ → Members → Option ℕ
router_at net key fields = option_and_then (router_number net) (text_at key fields)

-- a number of 32 bits at a key
abbrev pub word_at : Seq ℕ → Members → Option ℕ
word_at key fields = number_at 0 4294967295 key fields

-- the AS path: hosts of the network, at most 1,344
abbrev pub hop_of : NetValue → Data → Option ℕ
hop_of net value = option_and_then (router_number net) (as_str value)

abbrev pub if_short : Seq ℕ → Option (Seq ℕ)
if_short path = if nat_lt 1344 (length path) then None else Some path

abbrev pub path_in : NetValue → Items → Option (Seq ℕ)
path_in net items = option_and_then if_short (each_of (hop_of net) items)

abbrev pub path_at : NetValue → Seq ℕ → Members → Option (Seq ℕ)
path_at net key fields = option_and_then (path_in net) (array_at key fields)

-- the origin
abbrev pub origin_at : Seq ℕ → Members → Option Origin
origin_at key fields = option_and_then origin_of (text_at key fields)

-- the communities: texts of communities of the network, as the set of their numbers
abbrev pub member_of : NetValue → Data → Option ℕ
member_of net value = option_and_then (community_in net) (as_str value)

abbrev pub communities_in : NetValue → Items → Option ℕ
communities_in net items = option_map set_of (each_of (member_of net) items)

abbrev pub communities_at : NetValue → Seq ℕ → Members → Option ℕ
communities_at net key fields = option_and_then (communities_in net) (array_at key fields)
