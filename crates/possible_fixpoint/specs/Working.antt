-- What a worker does in a phase. No public clause cites these words.
use Rattle.std.specs.Prelude.{ℕ, ◌≡◌, ◌+◌, ◌<◌, ◌≤◌, ◌%◌, Bool, true, List, length}
use Rattle.net_types.specs.declared.arcs.Arc.{Arc}
use Rattle.net_types.specs.Sets.{has}
use Rattle.abstract_route.specs.Rows.{IsBelow, bottom, row_at}
use Rattle.abstract_route.specs.declared.rows.Row.{Row}
use Rattle.flow_board.specs.Pass.{Pass}
use Rattle.possible_fixpoint.specs.declared.notes.Notes.{Notes}
use Rattle.possible_fixpoint.specs.Flow.{Flow}
use Rattle.possible_fixpoint.specs.Marks.{number}
use Rattle.possible_fixpoint.specs.Notebook.{Grows, IsKept}
use Rattle.possible_fixpoint.specs.Possible.{AreBelow, AreRows, possible}
use Rattle.possible_fixpoint.specs.Standing.{list_rank}

-- the seat may work: it has a row for each router, and its roof is the least solution
pub record Works (flow : Flow) (p : Pass) : Type 0 where
  pub start_long : length p.start ≡ flow.routers
  pub own_long : length p.own ≡ flow.routers
  pub start_rows : AreRows p.start
  pub own_rows : AreRows p.own
  pub roof : p.roof ≡ possible flow

-- the seat has worked: its own raises have risen, strictly where a word has changed
pub record Grown (flow : Flow) (p q : Pass) (changed : Bool) : Type 0 where
  pub works : Works flow q
  pub same_board : q.board ≡ p.board
  pub same_start : q.start ≡ p.start
  pub same_roof : q.roof ≡ p.roof
  pub up : AreBelow p.own q.own
  pub rank : changed ≡ true → list_rank p.own < list_rank q.own

-- what the arcs into u from one place to another give of the rows at the start is among the notes
pub record Gathers (flow : Flow) (start : List Row) (u here next : ℕ) (before after : Notes) (grew : Bool) : Type 0 where
  pub kept : IsKept flow after
  pub grows : Grows u before.rows after.rows grew
  pub fed : (arc : Arc) → here ≤ number arc → number arc < next → flow.lives arc ≡ true → flow.receiver arc ≡ u →
      IsBelow (flow.gives arc (row_at start (flow.sender arc))) (row_at after.rows u)

-- the rows of the notes are raised
pub record AreRaised (flow : Flow) (rows : List Row) (p : Pass) : Type 0 where
  pub each : (u : ℕ) → u < flow.routers → IsBelow (row_at rows u) (row_at p.own u)

-- the local row of u, and what the arcs into u give of the rows at the start, are among the seat's raises
pub record Fed (flow : Flow) (p : Pass) (u : ℕ) : Type 0 where
  pub local : IsBelow (flow.source u) (row_at p.own u)
  pub learned : (arc : Arc) → flow.lives arc ≡ true → flow.receiver arc ≡ u →
      IsBelow (flow.gives arc (row_at p.start (flow.sender arc))) (row_at p.own u)

-- so it is for a worker's routers among the first
pub record AllFed (flow : Flow) (p : Pass) (worker workers k : ℕ) : Type 0 where
  pub each : (u : ℕ) → u < k → u % workers ≡ worker → Fed flow p u

-- and for the routers of several workers
pub record AllFedIn (flow : Flow) (p : Pass) (first many workers : ℕ) : Type 0 where
  pub each : (u : ℕ) → u < flow.routers → first ≤ u % workers → u % workers < first + many → Fed flow p u

-- how a worker stands: it has worked, and its notes are to rely on
pub record Stood (flow : Flow) (p q : Pass) (notes : Notes) (changed : Bool) : Type 0 where
  pub grown : Grown flow p q changed
  pub kept : IsKept flow notes
  pub raised : AreRaised flow notes.rows q

-- how it stands in a turn, after its routers among the first
pub record Turning (flow : Flow) (worker workers k : ℕ) (p q : Pass) (notes : Notes) (changed : Bool) : Type 0 where
  pub stood : Stood flow p q notes changed
  pub fed : AllFed flow q worker workers k

-- the least solution has paths of so many entries at the members of the set
pub record AreLong (flow : Flow) (most set : ℕ) : Type 0 where
  pub each : (u : ℕ) → has set u ≡ true → most ≤ (row_at (possible flow) u).length.high

-- the seat has raised nothing
pub record HasNone (flow : Flow) (p : Pass) : Type 0 where
  pub each : (u : ℕ) → u < flow.routers → row_at p.own u ≡ bottom
