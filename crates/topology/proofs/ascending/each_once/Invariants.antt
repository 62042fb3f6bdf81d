use Rattle.std.proofs.Common.{◌≡◌, ◌++◌, None, drop}
use Rattle.topology.specs.Ascending.{once_behind}
use Rattle.topology.proofs.ascending.each_once.Given as goal

abbrev pub invariant-loop-item : goal.invariant-loop-item
invariant-loop-item g l = l.all.items ++ once_behind g.T.Ranked.same l.last (drop l.item-index l.items) ≡ once_behind g.T.Ranked.same None l.items
