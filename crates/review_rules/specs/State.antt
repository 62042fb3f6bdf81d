-- The state of the review machine, and what a desk holds.
use Rattle.std.specs.Prelude.{ℕ, List}
use Rattle.desk_tables.specs.declared.rows.User.{User}
use Rattle.desk_tables.specs.declared.rows.Rows.{Rows}

-- the users and the six tables
pub record State : Type 0 where
  pub users : List User
  pub tables : Rows

-- the state, and for how many more rows each table has room
pub record Held : Type 0 where
  pub state : State
  pub spare : ℕ
