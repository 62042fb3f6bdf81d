-- What a worker keeps beside its seat. No public clause cites these words.
use Rattle.std.specs.Prelude.{ℕ, ◌≡◌, ◌≢◌, ◌<◌, Bool, true, false, List, length, slice_set, if◌then◌else◌}
use Rattle.net_types.specs.declared.arcs.Arc.{Arc}
use Rattle.net_types.specs.Sets.{has}
use Rattle.abstract_route.specs.declared.rows.Row.{Row}
use Rattle.abstract_route.specs.Rows.{IsBelow, IsRow, bottom, joined, row_at}
use Rattle.possible_fixpoint.specs.declared.notes.Notes.{Notes}
use Rattle.possible_fixpoint.specs.Flow.{Flow}
use Rattle.possible_fixpoint.specs.Marks.{has_arc, number}
use Rattle.possible_fixpoint.specs.Possible.{possible}
use Rattle.possible_fixpoint.specs.Standing.{AreGiving}

-- the rows with one more row joined into that of a router, or as they are
abbrev pub with_row : Bool → List Row → ℕ → Row → List Row
with_row grew xs u row = if grew then slice_set xs u (joined (row_at xs u) row) else xs

-- no more than rows has changed
pub record HasSameMarks (before after : Notes) : Type 0 where
  pub asked_at : after.asked_at ≡ before.asked_at
  pub asked : after.asked ≡ before.asked
  pub gave : after.gave ≡ before.gave
  pub begun : after.begun ≡ before.begun

-- nothing raised and no arc asked
pub record IsBlank (notes : Notes) : Type 0 where
  pub rows_long : length notes.rows ≡ 64
  pub asked_long : length notes.asked_at ≡ 128
  pub rows : (u : ℕ) → u < 64 → row_at notes.rows u ≡ bottom
  pub asked : notes.asked ≡ record { up = 0; down = 0 }
  pub gave : notes.gave ≡ record { up = 0; down = 0 }
  pub begun : notes.begun ≡ 0

-- notes to rely on: each row is below that of the least solution; the local rows and what arcs gave that were asked are
-- joined in; and the arcs that were seen giving something give something at the least solution
pub record IsKept (flow : Flow) (notes : Notes) : Type 0 where
  pub rows_long : length notes.rows ≡ 64
  pub asked_long : length notes.asked_at ≡ 128
  pub words : (u : ℕ) → u < flow.routers → IsRow (row_at notes.rows u)
  pub under : (u : ℕ) → u < flow.routers → IsBelow (row_at notes.rows u) (row_at (possible flow) u)
  pub local : (u : ℕ) → has notes.begun u ≡ true → IsBelow (flow.source u) (row_at notes.rows u)
  pub asked_words : (arc : Arc) → flow.lives arc ≡ true → has_arc notes.asked arc ≡ true → IsRow (row_at notes.asked_at (number arc))
  pub met : (arc : Arc) → flow.lives arc ≡ true → has_arc notes.asked arc ≡ true →
      IsBelow (flow.gives arc (row_at notes.asked_at (number arc))) (row_at notes.rows (flow.receiver arc))
  pub giving : AreGiving flow (possible flow) notes.gave

-- at most the row of u has risen, and none where it is not said
pub record Grows (u : ℕ) (xs ys : List Row) (grew : Bool) : Type 0 where
  pub up : (v : ℕ) → IsBelow (row_at xs v) (row_at ys v)
  pub other : (v : ℕ) → v ≢ u → row_at ys v ≡ row_at xs v
  pub same : grew ≡ false → ys ≡ xs
