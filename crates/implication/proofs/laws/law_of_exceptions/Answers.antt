use Rattle.implication.proofs.MeaningLemmas.{exception_is}
use Rattle.implication.proofs.laws.law_of_exceptions.Goals as goal

pub returns : goal.returns
returns c = exception_is
