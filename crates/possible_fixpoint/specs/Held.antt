-- What a stable labelling holds, against what is alive. All of this is the project's own.
use Rattle.std.specs.Prelude.{ℕ, ◌≡◌, true, List, Option, Some}
use Rattle.net_types.specs.declared.arcs.Arc.{Arc}
use Rattle.net_types.specs.declared.routes.Route.{Route}
use Rattle.net_types.specs.declared.routes.Source.TheVariants.{Local, Learned}
use Rattle.net_types.specs.Sets.{has, IsPart}
use Rattle.abstract_route.specs.declared.rows.Row.{Row}
use Rattle.abstract_route.specs.Fits.{IsIn}
use Rattle.concrete_algebra.specs.Stability.{label_at}
use Rattle.abstract_route.specs.Rows.{row_at}
use Rattle.possible_fixpoint.specs.Flow.{is_alive}
use Rattle.possible_fixpoint.specs.declared.alive.Alive.{Alive}

-- all that routers hold is alive: the arc that a learned label came over, and the local route that is a label
pub record IsHeldAlive (alive : Alive) (labels : List (Option Route)) : Type 0 where
  pub local : (u : ℕ) (route : Route) → label_at labels u ≡ Some route → route.source ≡ Local → has alive.locals u ≡ true
  pub learned : (u : ℕ) (route : Route) (arc : Arc) → label_at labels u ≡ Some route → route.source ≡ Learned arc → is_alive alive arc ≡ true

-- each label is in the row of its router
pub record AreIn (labels : List (Option Route)) (rows : List Row) : Type 0 where
  pub each : (u : ℕ) (route : Route) → label_at labels u ≡ Some route → IsIn route (row_at rows u)

-- what is alive in the one is alive in the other
pub record IsLessAlive (fewer more : Alive) : Type 0 where
  pub up : IsPart fewer.up more.up
  pub down : IsPart fewer.down more.down
  pub locals : IsPart fewer.locals more.locals

-- nothing has been dropped
abbrev pub all_alive : Alive
all_alive = record { up = 18446744073709551615; down = 18446744073709551615; locals = 18446744073709551615 }
