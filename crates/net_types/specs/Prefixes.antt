-- IPv4 prefixes: how they are written, which one lies in which, and their order.
use Rattle.std.specs.Prelude.{ℕ, ◌==◌, ◌&&◌, ◌||◌, nat_lt, nat_le, Bool, List, Option, Some, None, option_and_then, if◌then◌else◌}
use Rattle.net_types.specs.PrefixValue.{PrefixValue}
use Rattle.net_types.specs.Masks.{masked}
use Rattle.net_types.specs.Addresses.{interface_of}

-- the second prefix lies in the first: it is no shorter, and its first bits are those of the first
abbrev pub covers : PrefixValue → PrefixValue → Bool
covers p q = nat_le p.len q.len && ((masked q.bits p.len).bits == p.bits)

-- one of the two lies in the other
abbrev pub overlaps : PrefixValue → PrefixValue → Bool
overlaps p q = covers p q || covers q p

-- the two are one prefix
abbrev pub same_prefix : PrefixValue → PrefixValue → Bool
same_prefix p q = (p.bits == q.bits) && (p.len == q.len)

-- the order of prefixes: by bits, then by length
abbrev pub prefix_before : PrefixValue → PrefixValue → Bool
prefix_before p q = nat_lt p.bits q.bits || ((p.bits == q.bits) && nat_lt p.len q.len)

abbrev pub without_host_bits : ℕ → PrefixValue → Option PrefixValue
without_host_bits address p = if p.bits == address then Some p else None

-- the prefix of a text: an interface's address that has no bit set past the length
abbrev pub prefix_of : List ℕ → Option PrefixValue
prefix_of text = option_and_then (λ a. without_host_bits a.0 a.1) (interface_of text)
