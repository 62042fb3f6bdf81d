use Rattle.failure_sets.proofs.LawLemmas.{fewer_come_earlier}
use Rattle.failure_sets.proofs.laws.law_of_fewer_links.Goals as goal

pub returns : goal.returns
returns c = fewer_come_earlier
