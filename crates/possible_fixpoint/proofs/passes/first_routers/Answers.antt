use Rattle.possible_fixpoint.proofs.BeginLemmas.{first_more, first_none}
use Rattle.possible_fixpoint.proofs.passes.first_routers.Goals as goal

pub loop-router-init : goal.loop-router-init
loop-router-init c = first_none

pub loop-router-preserved : goal.loop-router-preserved
loop-router-preserved c = first_more c.loop-router.router c.loop-router.set c.with-set.result c.with-set.ensures c.loop-router.invariant
