use Rattle.implication.specs.OnTheWay.{view_case}
use Rattle.implication.proofs.NearLemmas.{AreNearTo}
use Rattle.implication.proofs.nearby.around_each.Given as goal

abbrev pub invariant-loop-router : goal.invariant-loop-router
invariant-loop-router l = AreNearTo (view_case l.case) l.router l.hops l.backs
