use Rattle.std.proofs.Common.{◌≡◌, drop}
use Rattle.net_types.specs.PrefixValue.{PrefixValue}
use Rattle.topology.specs.OwnedTable.{not_owned, owned_at}
use Rattle.topology.proofs.TableLemmas.{stubs_onto}
use Rattle.topology.proofs.owning.stub_table.Given as goal

abbrev pub invariant-loop-port : goal.invariant-loop-port
invariant-loop-port l = (q : PrefixValue) → stubs_onto q (owned_at l.table q) (drop l.port-index l.stubs) ≡ stubs_onto q (not_owned q) l.stubs
