use Rattle.property_book.proofs.StepLemmas.{learned_go_back, learned_go_one_way, learned_go_to_senders}
use Rattle.property_book.proofs.laws.law_of_learned_labels.Goals as goal

pub returns-clause-sender : goal.returns-clause-sender
returns-clause-sender c = learned_go_to_senders

pub returns-clause-one : goal.returns-clause-one
returns-clause-one c = learned_go_one_way

pub returns-clause-back : goal.returns-clause-back
returns-clause-back c = learned_go_back
