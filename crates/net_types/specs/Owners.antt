-- Who owns a prefix, and the cost of its stub.
use Rattle.std.specs.Prelude.{ℕ, Bool, false, List, Option, slice_get, option_and_then, find}
use Rattle.std.specs.List.{list_any}
use Rattle.std.specs.Option.{option_map_or}
use Rattle.net_types.specs.declared.network.Owned.{Owned}
use Rattle.net_types.specs.PrefixValue.{PrefixValue}
use Rattle.net_types.specs.Prefixes.{same_prefix}
use Rattle.net_types.specs.NetValue.{NetValue}

-- whether the prefix is among these
abbrev pub is_owned : PrefixValue → List Owned → Bool
is_owned prefix owned = list_any (λ entry. same_prefix entry.prefix prefix) owned

-- the router owns the prefix
abbrev pub owns : NetValue → ℕ → PrefixValue → Bool
owns net u prefix = option_map_or (λ router. is_owned prefix router.owned) (slice_get net.routers u) false

-- the entry of the prefix among what a router owns, where it is an owner
abbrev pub entry_of : PrefixValue → List Owned → Option Owned
entry_of prefix owned = find (λ entry. same_prefix entry.prefix prefix) owned

-- the OSPF cost of that entry, where there is one; an owner may have none
abbrev pub stub_of : PrefixValue → List Owned → Option ℕ
stub_of prefix owned = option_and_then (λ entry. entry.ospf_cost) (entry_of prefix owned)

-- the cost of the router's OSPF stub of the prefix, where it has one: as its entry says, where `topology` puts the
-- least cost of the stubs of that prefix
abbrev pub stub_cost : NetValue → PrefixValue → ℕ → Option ℕ
stub_cost net prefix u = option_and_then (λ router. stub_of prefix router.owned) (slice_get net.routers u)
