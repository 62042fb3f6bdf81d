use Rattle.failure_sets.proofs.LawLemmas.{places_are_positions}
use Rattle.failure_sets.proofs.laws.law_of_places.Goals as goal

pub returns : goal.returns
returns c = places_are_positions
