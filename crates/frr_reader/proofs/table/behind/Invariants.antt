use Rattle.std.proofs.Common.{◌≡◌, length}
use Rattle.frr_reader.specs.Table.{behind}
use Rattle.frr_reader.proofs.table.behind.Given as goal

abbrev pub invariant-loop-wanted : goal.invariant-loop-wanted
invariant-loop-wanted l = behind l.initial.head l.initial.line ≡ behind l.head l.line

abbrev pub decreases-loop-wanted : goal.decreases-loop-wanted
decreases-loop-wanted l = length l.head
