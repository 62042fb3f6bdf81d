use Rattle.case_walk.proofs.CaseLemmas.{cases_are_asked_once, most_is_greatest}
use Rattle.case_walk.proofs.laws.law_of_cases.Goals as goal

pub returns-clause-once : goal.returns-clause-once
returns-clause-once c = cases_are_asked_once

pub returns-clause-most : goal.returns-clause-most
returns-clause-most c = most_is_greatest
