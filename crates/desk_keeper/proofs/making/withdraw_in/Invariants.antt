use Rattle.std.proofs.Common.{◌≡◌, ◌++◌, map, take, drop}
use Rattle.desk_tables.specs.Tables.{at_review, withdrawn}
use Rattle.desk_keeper.proofs.making.withdraw_in.Given as goal

abbrev pub invariant-loop-i : goal.invariant-loop-i
invariant-loop-i l = map (at_review l.id withdrawn) l.fn.rows ≡ take l.i l.rows ++ map (at_review l.id withdrawn) (drop l.i l.rows)
