-- What a seat is to a board, and what each call tells it. All of this is the project's own.
use Rattle.std.specs.Prelude.{ℕ, ◌≡◌, List, length, map, replicate, slice_set}
use Rattle.std.specs.List.{range_with_len}
use Rattle.atomic_table.specs.Seated.{TableId}
use Rattle.abstract_route.specs.declared.rows.Row.{Row}
use Rattle.abstract_route.specs.Rows.{IsBelow, bottom, joined, row_at}
use Rattle.flow_board.specs.RowLists.{AreBelow, AreRows}

-- One thread's pass to one board: the rows that the board began with, the rows that it stays below, and what the
-- thread has raised itself. Start and roof are the same in all passes to a board.
pub record Pass : Type 0 where
  pub board : TableId
  pub start : List Row
  pub roof : List Row
  pub own : List Row

-- a board, told from all others by its name, and how many rows it has
pub record BoardName : Type 0 where
  pub name : TableId
  pub count : ℕ

-- nothing raised, of so many routers
unfoldable pub no_raises : ℕ → List Row
no_raises n = replicate n bottom

-- router by router, the join of what the two have raised
unfoldable pub both_raises : List Row → List Row → List Row
both_raises xs ys = map (λ u. joined (row_at xs u) (row_at ys u)) (range_with_len 0 (length xs))

-- the pass of a seat that has raised router u's row by this row too
abbrev pub raised : Pass → ℕ → Row → Pass
raised p u row = record p { own = slice_set p.own u (joined (row_at p.own u) row) }

-- what a seat may meet as router u's row: at or above the start and what it raised itself, and at or below the roof
pub record IsMet (p : Pass) (u : ℕ) (row : Row) : Type 0 where
  pub above_start : IsBelow (row_at p.start u) row
  pub above_own : IsBelow (row_at p.own u) row
  pub under_roof : IsBelow row (row_at p.roof u)

-- the same of the rows of a board of n rows at its end
pub record IsClosed (p : Pass) (n : ℕ) (rows : List Row) : Type 0 where
  pub long : length rows ≡ n
  pub fit : AreRows rows
  pub above_start : AreBelow p.start rows
  pub above_own : AreBelow p.own rows
  pub under_roof : AreBelow rows p.roof
