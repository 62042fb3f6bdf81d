-- Sets of routers that feed each other, round which lengths climb. All of this is the project's own.
use Rattle.std.specs.Prelude.{ℕ, ◌≡◌, ◌+◌, ◌<◌, ◌≤◌, ◌^◌, Bool, true, List, min, max}
use Rattle.net_types.specs.declared.arcs.Arc.{Arc}
use Rattle.abstract_route.specs.declared.rows.Row.{Row}
use Rattle.abstract_route.specs.Rows.{IsInhabited, row_at}
use Rattle.possible_fixpoint.specs.Flow.{Flow}

-- where an arc gives some route of a row, its longest paths are longer by one entry at least, up to the cut
pub record Lengthens (flow : Flow) (most : ℕ) : Type 0 where
  pub small : most < 2 ^ 64
  pub longer : (arc : Arc) (row : Row) → IsInhabited (flow.gives arc row) → min (row.length.high + 1) most ≤ (flow.gives arc row).length.high

-- the arc, from a member of the set to u, gives something at these rows
pub record Feeds (flow : Flow) (rows : List Row) (set : ℕ → Bool) (u : ℕ) (arc : Arc) : Type 0 where
  pub lives : flow.lives arc ≡ true
  pub receiver : flow.receiver arc ≡ u
  pub sender : set (flow.sender arc) ≡ true
  pub gives : IsInhabited (flow.gives arc (row_at rows (flow.sender arc)))

-- each member is given something by a member
abbrev pub IsFed : Flow → List Row → (ℕ → Bool) → Type 0
IsFed flow rows set = (u : ℕ) → set u ≡ true → (arc : Arc) × Feeds flow rows set u arc

-- the row with paths of at least so many entries left open
abbrev pub raised_row : ℕ → Row → Row
raised_row most row = record row { length = record { low = row.length.low; high = max row.length.high most } }
