use Rattle.std.proofs.Common.{◌*◌}
use Rattle.possible_fixpoint.specs.Phases.{AreMet}
use Rattle.possible_fixpoint.proofs.ending.all_add_nothing.Given as goal

abbrev pub invariant-loop-link : goal.invariant-loop-link
invariant-loop-link g l = AreMet (g.A.Analysis.flow l.analysis) l.rows (2 * l.link)
