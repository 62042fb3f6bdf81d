-- The least solution of a flow: what it means, and its value. All of this is the project's own.
use Rattle.std.specs.Prelude.{ℕ, zero, suc, ◌≡◌, ◌+◌, ◌*◌, ◌^◌, ◌<◌, ◌==◌, ◌&&◌, true, List, length, map, if◌then◌else◌}
use Rattle.std.specs.List.{range_with_len}
use Rattle.net_types.specs.declared.arcs.Arc.{Arc}
use Rattle.abstract_route.specs.declared.rows.Row.{Row}
use Rattle.abstract_route.specs.Rows.{IsBelow, IsRow, bottom, joined, row_at}
use Rattle.net_types.specs.Arcs.{up_of, down_of}
use Rattle.net_types.specs.Turns.{turns}
use Rattle.possible_fixpoint.specs.Flow.{Flow}

-- the rows solve the flow: each router's row is above that of its living local route, and above what each living arc
-- gives of its sender's row
pub record Solves (flow : Flow) (rows : List Row) : Type 0 where
  pub long : length rows ≡ flow.routers
  pub local : (u : ℕ) → u < flow.routers → IsBelow (flow.source u) (row_at rows u)
  pub learned : (arc : Arc) → flow.lives arc ≡ true → IsBelow (flow.gives arc (row_at rows (flow.sender arc))) (row_at rows (flow.receiver arc))

-- each row is below that of the same router
pub record AreBelow (a b : List Row) : Type 0 where
  pub long : length a ≡ length b
  pub each : (u : ℕ) → u < length a → IsBelow (row_at a u) (row_at b u)

-- all are rows of 64-bit words
pub record AreRows (rows : List Row) : Type 0 where
  pub each : (u : ℕ) → u < length rows → IsRow (row_at rows u)

-- the rows are the least that solve the flow
pub record IsLeast (flow : Flow) (rows : List Row) : Type 0 where
  pub words : AreRows rows
  pub solves : Solves flow rows
  pub least : (others : List Row) → AreRows others → Solves flow others → AreBelow rows others

-- what an arc adds to the row of router u, at these rows
abbrev pub arriving : Flow → List Row → ℕ → Arc → Row
arriving flow rows u arc = if flow.lives arc && flow.receiver arc == u then flow.gives arc (row_at rows (flow.sender arc)) else bottom

-- what both arcs of a link do
abbrev pub arriving_over : Flow → List Row → ℕ → ℕ → Row
arriving_over flow rows u link = joined (arriving flow rows u (up_of link)) (arriving flow rows u (down_of link))

-- the source of router u with all that the arcs of the first links add to it
unfoldable pub gathered : Flow → List Row → ℕ → ℕ → Row
gathered flow rows u zero = flow.source u
gathered flow rows u (suc link) = joined (arriving_over flow rows u link) (gathered flow rows u link)

-- all rows at once: each router's source with all that its arcs add to it
unfoldable pub equations : Flow → List Row → List Row
equations flow rows = map (λ u. gathered flow rows u flow.links) (range_with_len 0 flow.routers)

-- no routes anywhere
unfoldable pub bottoms : Flow → List Row
bottoms flow = map (λ u. bottom) (range_with_len 0 flow.routers)

-- more turns than the rows of so many routers can rise
unfoldable pub enough : ℕ → ℕ
enough routers = routers * (14 * 2 ^ 64) + 1

-- a value that is the least solution, see `law_of_possible`: the equations from no routes on, so many times
unfoldable pub possible : Flow → List Row
possible flow = turns (equations flow) (enough flow.routers) (bottoms flow)
