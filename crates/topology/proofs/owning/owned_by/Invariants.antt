use Rattle.std.proofs.Common.{◌≡◌, map, take}
use Rattle.topology.specs.OwnedTable.{owned_at}
use Rattle.topology.proofs.owning.owned_by.Given as goal

abbrev pub invariant-loop-prefix : goal.invariant-loop-prefix
invariant-loop-prefix l = l.all.items ≡ map (λ prefix. owned_at l.table prefix) (take l.prefix-index l.prefix-items)
