use Rattle.std.proofs.Common.{◌*◌}
use Rattle.possible_fixpoint.specs.Arrivals.{AreArrivals}
use Rattle.possible_fixpoint.proofs.arrivals.arrivals.Given as goal

abbrev pub invariant-loop-link : goal.invariant-loop-link
invariant-loop-link g l = AreArrivals (g.A.Analysis.flow l.analysis) (2 * l.link) l.sets
