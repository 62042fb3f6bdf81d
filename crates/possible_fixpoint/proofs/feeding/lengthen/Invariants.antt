use Rattle.possible_fixpoint.proofs.FeedLemmas.{Lengthening}
use Rattle.possible_fixpoint.proofs.feeding.lengthen.Given as goal

abbrev pub invariant-loop-router : goal.invariant-loop-router
invariant-loop-router g l = Lengthening (g.A.Analysis.flow l.analysis) l.fn.rows l.rows l.marks.gave l.marks.changed l.changed
