use Rattle.possible_fixpoint.proofs.NetLemmas.{networks_solve}
use Rattle.possible_fixpoint.proofs.solving.solve_plainly.Goals as goal

pub solve-requires : goal.solve-requires
solve-requires c = record {
  solvable = networks_solve c.args.net.now c.args.prefix c.args.failed c.args.distances.now c.args.alive.now c.valid.ensures c.requires.distances;
}
