use Rattle.frr_policy.proofs.NumberLemmas.{is_numbered, is_added}
use Rattle.frr_policy.proofs.laws.law_of_numbering.Goals as goal

pub returns-clause-next : goal.returns-clause-next
returns-clause-next c = is_numbered

pub returns-clause-added : goal.returns-clause-added
returns-clause-added c = is_added
