use Rattle.std.proofs.Common.{◌≡◌, drop}
use Rattle.net_types.specs.PrefixValue.{PrefixValue}
use Rattle.topology.specs.ByPrefix.{value_at}
use Rattle.topology.specs.Groups.{group}
use Rattle.topology.specs.Members.{members_of}
use Rattle.topology.proofs.TableLemmas.{grow}
use Rattle.topology.proofs.grouped.table.Given as goal

abbrev pub invariant-loop-port : goal.invariant-loop-port
invariant-loop-port l = (q : PrefixValue) → grow (value_at l.table q) (group (drop l.port-index l.ports) q) ≡ members_of (group l.ports q)
