-- A masked address is a prefix.
use Rattle.std.proofs.Common.{ℕ, ◌≡◌, ◌<◌, ◌≤◌, ◌*◌, ◌/◌, ◌^◌, ◌-◌, arith}
use Rattle.std.proofs.Math.Nat.{div-mul-le_self, mul-mod_left}
use Rattle.net_types.specs.PrefixValue.{IsPrefix}

pub masked_is_prefix : (a s len : ℕ) → a < 2 ^ 32 → len ≤ 32 → s ≡ 2 ^ (32 - len) → IsPrefix (record { bits = a / s * s; len = len })
masked_is_prefix a s len small few e = record {
  len = few;
  bits = let h = div-mul-le_self a s in omega arith;
  cleared = rw (← e) (mul-mod_left (a / s) s);
}
