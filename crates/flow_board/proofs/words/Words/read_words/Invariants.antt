use Rattle.std.proofs.Common.{◌≡◌, length}
use Rattle.flow_board.specs.WordSteps.{LookedRow}
use Rattle.flow_board.proofs.words.Words.read_words.Given as goal

abbrev pub invariant-loop-j : goal.invariant-loop-j
invariant-loop-j l =
    (l.seat.table_id ≡ l.fn.seat.table_id)
    × (l.seat.me.1 ≡ l.fn.seat.me.1)
    × LookedRow l.base l.j l.fn.seat.me.0 l.found l.seat.me.0
    × (length l.found ≡ 14)
