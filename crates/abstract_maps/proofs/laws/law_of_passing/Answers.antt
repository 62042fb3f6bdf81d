use Rattle.abstract_maps.proofs.ArcLemmas.{passing_is_sure}
use Rattle.abstract_maps.proofs.laws.law_of_passing.Goals as goal

pub returns : goal.returns
returns c = passing_is_sure
