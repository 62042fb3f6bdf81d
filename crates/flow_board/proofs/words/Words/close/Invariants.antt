use Rattle.std.proofs.Common.{◌≡◌, ◌<◌, ◌*◌, ℕ, length}
use Rattle.abstract_route.specs.Rows.{IsRow, row_at}
use Rattle.flow_board.specs.RowWords.{row_from}
use Rattle.flow_board.proofs.words.Words.close.Given as goal

abbrev pub invariant-loop-router : goal.invariant-loop-router
invariant-loop-router l =
    (length l.rows ≡ l.router)
    × ((u : ℕ) → u < l.router → (row_at l.rows u ≡ row_from l.words.items (14 * u)) × IsRow (row_at l.rows u))
