-- Boards on which the tests may raise every row.
use Rattle.std.specs.Prelude.{ℕ, ◌≡◌, ◌<◌}
use Rattle.abstract_route.specs.declared.rows.Row.{Row}
use Rattle.abstract_route.specs.declared.rows.Range.{Range}
use Rattle.abstract_route.specs.Rows.{IsBelow, IsRow, row_at}
use Rattle.flow_board.specs.Pass.{BoardName, Pass}

-- all numbers of 64 bits
abbrev pub everywhere : Range
everywhere = record { low = 0; high = 18446744073709551615 }

-- the row above all rows of 64-bit words
abbrev pub top : Row
top = record {
  weight = everywhere;
  preference = everywhere;
  length = everywhere;
  origin = everywhere;
  med = everywhere;
  has = 18446744073709551615;
  lacks = 18446744073709551615;
  may = 18446744073709551615;
  must = 0;
}

-- a seat of the board, whose roof is above every row
pub record IsFree (board : BoardName) (pass : Pass) : Type 0 where
  pub mine : pass.board ≡ board.name
  pub roof : (u : ℕ) (row : Row) → u < board.count → IsRow row → IsBelow row (row_at pass.roof u)
