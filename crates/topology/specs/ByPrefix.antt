-- Values by prefix.
use Rattle.std.specs.Prelude.{ℕ, Option}
use Rattle.std.specs.BTreeMap.{BTreeMap, get}
use Rattle.std.specs.Ordering.{nat_cmp, ordering_then}
use Rattle.net_types.specs.PrefixValue.{PrefixValue}

-- the value at a prefix, if there is one
abbrev pub value_at : {X : Type 0} → BTreeMap (ℕ × ℕ) X → PrefixValue → Option X
value_at values prefix = get (λ x y. ordering_then (nat_cmp x.0 y.0) (nat_cmp x.1 y.1)) values (prefix.bits, prefix.len)
