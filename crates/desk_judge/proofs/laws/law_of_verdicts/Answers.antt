use Rattle.desk_judge.proofs.VerdictLemmas.{outcomes_are_one, verdicts_are_one}
use Rattle.desk_judge.proofs.laws.law_of_verdicts.Goals as goal

pub returns-clause-verdicts : goal.returns-clause-verdicts
returns-clause-verdicts c = verdicts_are_one

pub returns-clause-outcomes : goal.returns-clause-outcomes
returns-clause-outcomes c = outcomes_are_one
