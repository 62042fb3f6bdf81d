use Rattle.std.proofs.Common.{◌≡◌, take, length}
use Rattle.flow_board.specs.WordSteps.{ToldRow}
use Rattle.flow_board.proofs.words.Words.raise_words.Given as goal

abbrev pub invariant-loop-j : goal.invariant-loop-j
invariant-loop-j l =
    (l.seat.table_id ≡ l.fn.seat.table_id)
    × (l.seat.me.1 ≡ l.fn.seat.me.1)
    × ToldRow l.base (take l.j l.row) l.fn.seat.me.0 l.old l.seat.me.0
    × (length l.old ≡ 14)
