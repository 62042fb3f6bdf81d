use Rattle.implication.specs.OnTheWay.{view_seen}
use Rattle.implication.proofs.SolidLemmas.{IsThinning}
use Rattle.implication.proofs.sure_routes.solid.Given as goal

abbrev pub invariant-loop-set : goal.invariant-loop-set
invariant-loop-set l = IsThinning (view_seen l.seen) l.set l.next

abbrev pub decreases-loop-set : goal.decreases-loop-set
decreases-loop-set l = l.set
