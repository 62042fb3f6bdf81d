use Rattle.std.proofs.Common.{◌≡◌, length}
use Rattle.possible_fixpoint.specs.Flow.{flow_of}
use Rattle.possible_fixpoint.specs.Possible.{possible}
use Rattle.possible_fixpoint.proofs.NetLemmas.{networks_solve, rows_are_long}
use Rattle.possible_fixpoint.proofs.PhaseLemmas.{under_ok}
use Rattle.possible_fixpoint.proofs.solving.solve_possible.Goals as goal

pub solve-requires-clause-solvable : goal.solve-requires-clause-solvable
solve-requires-clause-solvable g c =
    λ κs bounds. networks_solve c.args.net.now c.args.prefix c.args.failed c.args.distances.now c.args.alive.now c.valid.ensures c.requires.distances

pub returns-clause-long : goal.returns-clause-long
returns-clause-long g c =
    under_ok c.solve.result (λ rows. rows ≡ possible (flow_of c.args.net.now c.args.prefix c.args.failed c.args.distances.now c.args.alive.now)) (λ rows. length rows ≡ length c.args.net.now.routers)
    (λ rows is. rows_are_long c.args.net.now c.args.prefix c.args.failed c.args.distances.now c.args.alive.now rows c.valid.ensures c.requires.distances is) c.solve.ensures
