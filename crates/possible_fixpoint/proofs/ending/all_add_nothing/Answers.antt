use Rattle.possible_fixpoint.proofs.PhaseLemmas.{met_none}
use Rattle.possible_fixpoint.proofs.ending.all_add_nothing.Goals as goal

pub loop-link-init : goal.loop-link-init
loop-link-init g c =
    met_none (g.A.Analysis.flow c.args.analysis.now) c.args.rows.now
