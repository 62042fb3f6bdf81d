use Rattle.std.proofs.Common.{◌≡◌, ◌++◌, drop}
use Rattle.desk_keeper.proofs.copies.copy_keeps.Given as goal

abbrev pub invariant-loop-i : goal.invariant-loop-i
invariant-loop-i l = l.all ++ drop l.i l.table.items ≡ l.table.items
