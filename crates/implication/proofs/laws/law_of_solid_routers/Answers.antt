use Rattle.implication.proofs.MeaningLemmas.{solid_is, solid_is_least}
use Rattle.implication.proofs.ViewLemmas.{hops_of_cases_fall}
use Rattle.implication.proofs.laws.law_of_solid_routers.Goals as goal

pub returns-clause-rule : goal.returns-clause-rule
returns-clause-rule c = solid_is

pub returns-clause-least : goal.returns-clause-least
returns-clause-least c = solid_is_least

pub returns-clause-falling : goal.returns-clause-falling
returns-clause-falling c = hops_of_cases_fall
