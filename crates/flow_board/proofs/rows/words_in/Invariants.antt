use Rattle.std.proofs.Common.{◌≡◌, ◌++◌, drop}
use Rattle.flow_board.specs.RowWords.{words_of}
use Rattle.flow_board.proofs.rows.words_in.Given as goal

abbrev pub invariant-loop-row : goal.invariant-loop-row
invariant-loop-row l = l.words.items ++ words_of (drop l.row-index l.rows) ≡ words_of l.rows
