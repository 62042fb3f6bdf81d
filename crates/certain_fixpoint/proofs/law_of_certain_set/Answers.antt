use Rattle.certain_fixpoint.proofs.CertainLemmas.{certain_set_is}
use Rattle.certain_fixpoint.proofs.law_of_certain_set.Goals as goal

pub returns : goal.returns
returns c = certain_set_is
