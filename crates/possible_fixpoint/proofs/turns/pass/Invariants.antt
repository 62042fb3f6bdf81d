use Rattle.possible_fixpoint.specs.Working.{Turning}
use Rattle.possible_fixpoint.proofs.turns.pass.Given as goal

abbrev pub invariant-loop-router : goal.invariant-loop-router
invariant-loop-router g l = Turning (g.A.Analysis.flow l.analysis) l.worker l.workers l.router l.fn.seat l.seat l.notes l.changed
