use Rattle.concrete_algebra.proofs.DeleteLemmas.{deletes_are_named}
use Rattle.concrete_algebra.proofs.laws.law_of_deletes.Goals as goal

pub returns : goal.returns
returns c = deletes_are_named
