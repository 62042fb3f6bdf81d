use Rattle.std.proofs.Common.{◌≡◌, ◌++◌, map, take, drop}
use Rattle.desk_tables.specs.Tables.{at_review, merged}
use Rattle.desk_keeper.proofs.making.merge_in.Given as goal

abbrev pub invariant-loop-i : goal.invariant-loop-i
invariant-loop-i l = map (at_review l.id (merged l.head)) l.fn.rows ≡ take l.i l.rows ++ map (at_review l.id (merged l.head)) (drop l.i l.rows)
