use Rattle.abstract_route.proofs.BeatsLemmas.{beats_is_sound}
use Rattle.abstract_route.proofs.laws.law_of_beating.Goals as goal

pub returns : goal.returns
returns c = beats_is_sound
