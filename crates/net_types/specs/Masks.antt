-- Masks of IPv4 prefixes.
use Rattle.std.specs.Prelude.{ℕ, ◌^◌, ◌-◌, ◌*◌, ◌/◌}
use Rattle.net_types.specs.PrefixValue.{PrefixValue}

-- an address with the bits past the length cleared
abbrev pub masked : ℕ → ℕ → PrefixValue
masked address len = record { bits = address / 2 ^ (32 - len) * 2 ^ (32 - len); len = len }
