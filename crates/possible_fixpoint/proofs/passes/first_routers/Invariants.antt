use Rattle.possible_fixpoint.specs.Standing.{AreFirst}
use Rattle.possible_fixpoint.proofs.passes.first_routers.Given as goal

abbrev pub invariant-loop-router : goal.invariant-loop-router
invariant-loop-router l = AreFirst l.router l.set
