-- The table of kept rows: where the rows are, and the positions that put them in the order of their keys.
use Rattle.std.specs.Prelude.{ℕ, ◌<◌, Bool, List, length, slice_get, is_some}
use Rattle.std.specs.List.{All, filter_map}
use Rattle.desk_tables.specs.Order.{Ascends, passing, texts_cmp}
use Rattle.desk_tables.specs.Tables.{kept_key}
use Rattle.desk_tables.specs.declared.rows.KeptRow.{KeptRow}

-- the rows in the order of their keys, and how many more may be put there without more memory
pub record KeptValue : Type 0 where
  pub items : List KeptRow
  pub room : ℕ

-- the rows at these positions
abbrev pub at_positions : {X : Type 0} → List X → List ℕ → List X
at_positions rows order = filter_map (slice_get rows) order

-- there is a row at the position, and it passes the test
abbrev pub passes_at : {X : Type 0} → (X → Bool) → List X → ℕ → Bool
passes_at test rows position = is_some (passing test (slice_get rows position))

-- each position is that of a row, and the rows at them are in the order of their keys
pub record IsOrderOf (rows : List KeptRow) (order : List ℕ) : Type 0 where
  pub within : All (λ position. position < length rows) order
  pub sorted : Ascends texts_cmp kept_key (at_positions rows order)
