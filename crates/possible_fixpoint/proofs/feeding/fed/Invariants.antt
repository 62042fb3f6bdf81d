use Rattle.possible_fixpoint.proofs.FeedLemmas.{IsFeeding}
use Rattle.possible_fixpoint.proofs.feeding.fed.Given as goal

abbrev pub invariant-loop-set : goal.invariant-loop-set
invariant-loop-set g l = IsFeeding (g.A.Analysis.flow l.analysis) l.gave l.set l.next

abbrev pub decreases-loop-set : goal.decreases-loop-set
decreases-loop-set g l = l.set
