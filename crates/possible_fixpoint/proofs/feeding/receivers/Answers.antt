use Rattle.possible_fixpoint.proofs.FeedLemmas.{none_found}
use Rattle.possible_fixpoint.proofs.feeding.receivers.Goals as goal

pub loop-link-init : goal.loop-link-init
loop-link-init g c = none_found (g.A.Analysis.flow c.args.analysis.now) c.args.gave.now c.args.set
