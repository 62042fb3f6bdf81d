-- How the solver stands on its way to the least solution. No public clause cites these words.
use Rattle.std.specs.Prelude.{ℕ, ◌≡◌, ◌+◌, ◌-◌, ◌*◌, ◌<◌, ◌≤◌, Bool, true, false, List, [], ◌∷◌, length}
use Rattle.net_types.specs.declared.arcs.Arc.{Arc}
use Rattle.net_types.specs.Sets.{has, IsPart}
use Rattle.abstract_route.specs.declared.rows.Row.{Row}
use Rattle.abstract_route.specs.Heights.{row_rank}
use Rattle.abstract_route.specs.Rows.{IsBelow, IsInhabited, row_at}
use Rattle.abstract_maps.specs.AbstractMap.{IsShort}
use Rattle.possible_fixpoint.specs.declared.marks.ArcSet.{ArcSet}
use Rattle.possible_fixpoint.specs.Climbing.{Lengthens, raised_row}
use Rattle.possible_fixpoint.specs.Flow.{Flow, Lawful}
use Rattle.possible_fixpoint.specs.Marks.{Improved, IsNoted, has_arc, number}
use Rattle.possible_fixpoint.specs.Possible.{AreBelow, AreRows, Solves, possible}

-- what the solver uses of a flow
pub record Solvable (flow : Flow) : Type 0 where
  pub lawful : Lawful flow
  pub lengthens : Lengthens flow (21 * flow.routers)
  pub few : flow.routers ≤ 64
  pub few_links : flow.links ≤ 64
  pub short : (u : ℕ) (row : Row) → u < flow.routers → IsBelow row (row_at (possible flow) u) → IsShort row

-- how far all rows have grown
unfoldable pub list_rank : List Row → ℕ
list_rank [] = 0
list_rank (row ∷ rows) = row_rank row + list_rank rows

-- rows on the way to the least solution: above the sources, and below every solution
pub record Between (flow : Flow) (rows : List Row) : Type 0 where
  pub long : length rows ≡ flow.routers
  pub words : AreRows rows
  pub local : (u : ℕ) → u < flow.routers → IsBelow (flow.source u) (row_at rows u)
  pub low : (others : List Row) → AreRows others → Solves flow others → AreBelow rows others

-- what an arc gives at these rows is in its receiver's row, and noted
pub record IsMet (flow : Flow) (rows : List Row) (seen : ArcSet) (arc : Arc) : Type 0 where
  pub below : IsBelow (flow.gives arc (row_at rows (flow.sender arc))) (row_at rows (flow.receiver arc))
  pub noted : IsInhabited (flow.gives arc (row_at rows (flow.sender arc))) → has_arc seen arc ≡ true

-- the arcs that were seen giving live, and give something at these rows
pub record AreGiving (flow : Flow) (rows : List Row) (seen : ArcSet) : Type 0 where
  pub lives : (arc : Arc) → has_arc seen arc ≡ true → flow.lives arc ≡ true
  pub gives : (arc : Arc) → has_arc seen arc ≡ true → IsInhabited (flow.gives arc (row_at rows (flow.sender arc)))

-- rows on the way to the least solution, where only arcs from marked routers, and those from u that come at a place or
-- after it, may bring more
pub record Standing (flow : Flow) (u next : ℕ) (rows : List Row) (seen : ArcSet) (dirty : ℕ) : Type 0 where
  pub between : Between flow rows
  pub giving : AreGiving flow rows seen
  pub members : (v : ℕ) → has dirty v ≡ true → v < flow.routers
  pub met : (arc : Arc) → flow.lives arc ≡ true → has dirty (flow.sender arc) ≡ false → (flow.sender arc ≡ u → number arc < next) → IsMet flow rows seen arc

-- the same where each arc of an unmarked router was asked
abbrev pub Stands : Flow → List Row → ArcSet → ℕ → Type 0
Stands flow rows seen dirty = Standing flow 0 (2 * flow.links) rows seen dirty

-- rows have risen, or no router was marked
pub record Advanced (xs ys : List Row) (dirty marks : ℕ) : Type 0 where
  pub up : list_rank xs ≤ list_rank ys
  pub same : list_rank ys ≤ list_rank xs → IsPart marks dirty

-- rows have risen, or no router is marked any more
pub record Turned (xs ys : List Row) (marks : ℕ) : Type 0 where
  pub up : list_rank xs ≤ list_rank ys
  pub none : list_rank ys ≤ list_rank xs → marks ≡ 0

-- an arc was asked
pub record Visited (flow : Flow) (arc : Arc) (xs ys : List Row) (before after : ArcSet) (dirty marks : ℕ) : Type 0 where
  pub noted : IsNoted arc (flow.gives arc (row_at xs (flow.sender arc))) before after
  pub improved : Improved (flow.receiver arc) (flow.gives arc (row_at xs (flow.sender arc))) xs ys dirty marks

-- the router at a place of a pass, which goes up or down, and the place of a router
abbrev pub place : Bool → ℕ → ℕ → ℕ
place true n k = k
place false n k = n - 1 - k

-- a member's row is lengthened, and no other
pub record IsLengthened (most set u : ℕ) (xs ys : List Row) (dirty marks : ℕ) : Type 0 where
  pub member : has set u ≡ true → Improved u (raised_row most (row_at xs u)) xs ys dirty marks
  pub other : has set u ≡ false → (ys ≡ xs) × (marks ≡ dirty)

-- the sources of the first routers
pub record AreSources (flow : Flow) (k : ℕ) (rows : List Row) : Type 0 where
  pub long : length rows ≡ k
  pub each : (u : ℕ) → u < k → row_at rows u ≡ flow.source u

-- the set has the first routers
pub record AreFirst (k set : ℕ) : Type 0 where
  pub inside : (v : ℕ) → has set v ≡ true → v < k
  pub all : (v : ℕ) → v < k → has set v ≡ true
