use Rattle.implication.proofs.MeaningLemmas.{answers_are_one}
use Rattle.implication.proofs.TellLemmas.{what_is_implied_holds}
use Rattle.implication.proofs.laws.law_of_answers.Goals as goal

pub returns-clause-one : goal.returns-clause-one
returns-clause-one c = answers_are_one

pub returns-clause-holds : goal.returns-clause-holds
returns-clause-holds c = what_is_implied_holds
