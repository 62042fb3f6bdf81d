-- An IPv4 prefix as contracts see it.
use Rattle.std.specs.Prelude.{ℕ, ◌≡◌, ◌<◌, ◌≤◌, ◌^◌, ◌-◌, ◌%◌}

-- the addresses whose first len bits are those of bits
pub record PrefixValue : Type 0 where
  pub bits : ℕ
  pub len : ℕ

-- a prefix: a length of at most 32, an address, and no bit set past the length
pub record IsPrefix (p : PrefixValue) : Type 0 where
  pub len : p.len ≤ 32
  pub bits : p.bits < 2 ^ 32
  pub cleared : p.bits % 2 ^ (32 - p.len) ≡ 0
