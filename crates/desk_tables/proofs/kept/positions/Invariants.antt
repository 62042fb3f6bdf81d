use Rattle.std.proofs.Common.{◌≡◌, ◌<◌, length, take}
use Rattle.std.specs.List.{All}
use Rattle.desk_tables.specs.Kept.{at_positions}
use Rattle.desk_tables.proofs.kept.positions.Given as goal

abbrev pub invariant-loop-i : goal.invariant-loop-i
invariant-loop-i l = (at_positions l.rows l.order.items ≡ take l.i l.rows)
    × All (λ position. position < length l.rows) l.order.items
