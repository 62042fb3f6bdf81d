use Rattle.possible_fixpoint.specs.Phases.{AreLocalMet}
use Rattle.possible_fixpoint.proofs.ending.have_local_rows.Given as goal

abbrev pub invariant-loop-router : goal.invariant-loop-router
invariant-loop-router g l = AreLocalMet (g.A.Analysis.flow l.analysis) l.rows l.router
