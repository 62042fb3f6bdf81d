use Rattle.failure_sets.proofs.LawLemmas.{next_is_behind, next_is_least}
use Rattle.failure_sets.proofs.laws.law_of_next.Goals as goal

pub returns-clause-behind : goal.returns-clause-behind
returns-clause-behind c = next_is_behind

pub returns-clause-least : goal.returns-clause-least
returns-clause-least c = next_is_least
