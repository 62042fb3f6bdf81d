use Rattle.refine_rounds.proofs.IdleLemmas.{tight_by}
use Rattle.refine_rounds.proofs.idle.tight_arc.Goals as goal

pub returns : goal.returns
returns c = tight_by c.args.reading.now.net.now c.args.reading.now.failed.now c.args.reading.now.distances.now c.args.arc c.is_tight.result c.is_tight.ensures
