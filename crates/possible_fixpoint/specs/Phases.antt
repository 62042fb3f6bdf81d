-- What a phase reaches, and the test at its end. No public clause cites these words.
use Rattle.std.specs.Prelude.{ℕ, ◌≡◌, ◌<◌, true, List, length}
use Rattle.net_types.specs.declared.arcs.Arc.{Arc}
use Rattle.abstract_route.specs.declared.rows.Row.{Row}
use Rattle.abstract_route.specs.Rows.{IsBelow, row_at}
use Rattle.possible_fixpoint.specs.Flow.{Flow}
use Rattle.possible_fixpoint.specs.Marks.{number}
use Rattle.possible_fixpoint.specs.Possible.{AreBelow, AreRows, possible}

-- the arc adds nothing, if it lives
abbrev pub AddsNothing : Flow → List Row → Arc → Type 0
AddsNothing flow xs arc = flow.lives arc ≡ true → IsBelow (flow.gives arc (row_at xs (flow.sender arc))) (row_at xs (flow.receiver arc))

-- so it is for the arcs before a place, and for the local rows of the first routers
abbrev pub AreMet : Flow → List Row → ℕ → Type 0
AreMet flow xs next = (arc : Arc) → number arc < next → AddsNothing flow xs arc

abbrev pub AreLocalMet : Flow → List Row → ℕ → Type 0
AreLocalMet flow xs k = (u : ℕ) → u < k → IsBelow (flow.source u) (row_at xs u)

-- the rows lie below the least solution
pub record IsOnTheWay (flow : Flow) (xs : List Row) : Type 0 where
  pub long : length xs ≡ flow.routers
  pub words : AreRows xs
  pub under : AreBelow xs (possible flow)

-- a phase has led from rows to others: they have risen by at least what the local rows and the arcs give of the rows at
-- its start
pub record Phased (flow : Flow) (xs ys : List Row) : Type 0 where
  pub way : IsOnTheWay flow ys
  pub up : AreBelow xs ys
  pub local : (u : ℕ) → u < flow.routers → IsBelow (flow.source u) (row_at ys u)
  pub learned : (arc : Arc) → flow.lives arc ≡ true → IsBelow (flow.gives arc (row_at xs (flow.sender arc))) (row_at ys (flow.receiver arc))
