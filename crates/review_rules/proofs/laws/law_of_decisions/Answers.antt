use Rattle.review_rules.proofs.ChangeLemmas.{decisions_are_steps}
use Rattle.review_rules.proofs.laws.law_of_decisions.Goals as goal

pub returns : goal.returns
returns c = decisions_are_steps
