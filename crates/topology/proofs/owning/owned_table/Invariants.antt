use Rattle.std.proofs.Common.{◌≡◌, drop}
use Rattle.net_types.specs.PrefixValue.{PrefixValue}
use Rattle.topology.specs.OwnedTable.{owned_at}
use Rattle.topology.specs.Owning.{owned_of}
use Rattle.topology.proofs.TableLemmas.{networks_onto}
use Rattle.topology.proofs.owning.owned_table.Given as goal

abbrev pub invariant-loop-network : goal.invariant-loop-network
invariant-loop-network l = (q : PrefixValue) → networks_onto q (owned_at l.table q) (drop l.network-index l.networks) ≡ owned_of l.stubs l.networks q
