use Rattle.possible_fixpoint.specs.Standing.{AreSources}
use Rattle.possible_fixpoint.proofs.passes.sources.Given as goal

abbrev pub invariant-loop-router : goal.invariant-loop-router
invariant-loop-router g l = AreSources (g.A.Analysis.flow l.analysis) l.router l.rows.items
