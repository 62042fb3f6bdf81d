-- The flow of a network can be solved.
use Rattle.std.proofs.Common.{ℕ, ◌≡◌, List, Option, length, ap, ◌∙◌}
use Rattle.net_types.specs.Distance.{AreDistances}
use Rattle.net_types.specs.NetFacts.{IsNet}
use Rattle.net_types.specs.NetValue.{NetValue}
use Rattle.net_types.specs.PrefixValue.{PrefixValue}
use Rattle.possible_fixpoint.specs.declared.alive.Alive.{Alive}
use Rattle.abstract_route.specs.declared.rows.Row.{Row}
use Rattle.possible_fixpoint.specs.Flow.{flow_of}
use Rattle.possible_fixpoint.specs.Possible.{possible}
use Rattle.possible_fixpoint.specs.Standing.{Solvable}
use Rattle.possible_fixpoint.proofs.ClimbLemmas.{flow_lengthens}
use Rattle.possible_fixpoint.proofs.FlowLemmas.{flow_is_lawful}
use Rattle.possible_fixpoint.proofs.LeastLemmas.{possible_is_least}
use Rattle.possible_fixpoint.proofs.ShortLemmas.{possible_is_short}

pub networks_solve : (net : NetValue) (prefix : PrefixValue) (failed : List ℕ) (distances : List (Option ℕ)) (alive : Alive) → IsNet net → AreDistances net prefix failed distances → Solvable (flow_of net prefix failed distances alive)
networks_solve net prefix failed distances alive valid are = record {
  lawful = flow_is_lawful net prefix failed distances alive valid are;
  lengthens = flow_lengthens net prefix failed distances alive valid;
  few = valid.few_routers;
  few_links = valid.few_links;
  short = λ u row low below. possible_is_short net prefix failed distances alive u row valid low below;
}

-- a row for each router
pub rows_are_long : (net : NetValue) (prefix : PrefixValue) (failed : List ℕ) (distances : List (Option ℕ)) (alive : Alive) (rows : List Row) → IsNet net → AreDistances net prefix failed distances → rows ≡ possible (flow_of net prefix failed distances alive) → length rows ≡ length net.routers
rows_are_long net prefix failed distances alive rows valid are same =
    ap length same ∙ (possible_is_least (flow_of net prefix failed distances alive) (flow_is_lawful net prefix failed distances alive valid are)).solves.long
