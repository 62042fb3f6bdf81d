use Rattle.review_rules.proofs.ValidLemmas.{tables_stay_valid}
use Rattle.review_rules.proofs.laws.law_of_validity.Goals as goal

pub returns : goal.returns
returns c = tables_stay_valid
