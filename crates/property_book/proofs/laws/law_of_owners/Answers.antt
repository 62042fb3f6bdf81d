use Rattle.property_book.proofs.LoopLemmas.{owners_end_walks, owners_reach}
use Rattle.property_book.proofs.StepLemmas.{owners_deliver}
use Rattle.property_book.proofs.laws.law_of_owners.Goals as goal

pub returns-clause-deliver : goal.returns-clause-deliver
returns-clause-deliver c = owners_deliver

pub returns-clause-end : goal.returns-clause-end
returns-clause-end c = owners_end_walks

pub returns-clause-reach : goal.returns-clause-reach
returns-clause-reach c = owners_reach
