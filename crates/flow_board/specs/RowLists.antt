-- Rows of all routers, in order of their numbers. All of this is the project's own.
use Rattle.std.specs.Prelude.{ℕ, ◌≡◌, ◌<◌, List, length}
use Rattle.abstract_route.specs.declared.rows.Row.{Row}
use Rattle.abstract_route.specs.Rows.{IsBelow, IsRow, row_at}

-- each row is below that of the same router
pub record AreBelow (a b : List Row) : Type 0 where
  pub long : length a ≡ length b
  pub each : (u : ℕ) → u < length a → IsBelow (row_at a u) (row_at b u)

-- all are rows of 64-bit words
pub record AreRows (rows : List Row) : Type 0 where
  pub each : (u : ℕ) → u < length rows → IsRow (row_at rows u)
