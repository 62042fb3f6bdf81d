-- What a router owns, by prefix.
use Rattle.std.specs.Prelude.{ℕ, ◌≡◌, true, false, unwrap_or, List, Option, None, if◌then◌else◌}
use Rattle.std.specs.BTreeMap.{BTreeMap}
use Rattle.net_types.specs.declared.network.Owned.{Owned}
use Rattle.net_types.specs.PrefixValue.{PrefixValue}
use Rattle.topology.specs.declared.interfaces.Port.{Port}
use Rattle.topology.specs.ByPrefix.{value_at}
use Rattle.topology.specs.Owning.{lesser, stub_cost, owned_of}

-- the entry of a prefix that is owned in no way
abbrev pub not_owned : PrefixValue → Owned
not_owned prefix = record { prefix = prefix; network = false; stub = false; ospf_cost = None }

-- the entry of a prefix
abbrev pub owned_at : BTreeMap (ℕ × ℕ) Owned → PrefixValue → Owned
owned_at table prefix = unwrap_or (value_at table prefix) (not_owned prefix)

-- the least cost with that of one more stub, where it runs OSPF
abbrev pub with_cost : Option ℕ → Port → Option ℕ
with_cost least port = if port.ospf then lesser least (stub_cost port) else least

-- the entry with one more stub, with one more `network` line
abbrev pub with_stub : Owned → Port → Owned
with_stub owned port = record { prefix = owned.prefix; network = owned.network; stub = true; ospf_cost = with_cost owned.ospf_cost port }

abbrev pub with_network : Owned → Owned
with_network owned = record { prefix = owned.prefix; network = true; stub = owned.stub; ospf_cost = owned.ospf_cost }

-- the table has what a router with these stubs and `network` lines owns
abbrev pub IsOwnedTable : List Port → List PrefixValue → BTreeMap (ℕ × ℕ) Owned → Type 0
IsOwnedTable stubs networks table = (prefix : PrefixValue) → owned_at table prefix ≡ owned_of stubs networks prefix
