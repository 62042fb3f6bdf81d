use Rattle.certify.proofs.VerdictLemmas.{are_reusable}
use Rattle.certify.proofs.verdicts.certify.Goals as goal

pub verdicts_of-requires-clause-reusable : goal.verdicts_of-requires-clause-reusable
verdicts_of-requires-clause-reusable g c κs within = are_reusable c.args.net.now c.valid.ensures
