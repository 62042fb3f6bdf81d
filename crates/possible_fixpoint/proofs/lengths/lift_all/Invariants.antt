use Rattle.std.proofs.Common.{false}
use Rattle.possible_fixpoint.specs.Working.{Stood}
use Rattle.possible_fixpoint.proofs.lengths.lift_all.Given as goal

abbrev pub invariant-loop-router : goal.invariant-loop-router
invariant-loop-router g l = Stood (g.A.Analysis.flow l.analysis) l.fn.seat l.seat l.notes false
