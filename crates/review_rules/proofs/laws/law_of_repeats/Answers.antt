use Rattle.review_rules.proofs.RepeatLemmas.{repeats_change_nothing}
use Rattle.review_rules.proofs.laws.law_of_repeats.Goals as goal

pub returns : goal.returns
returns c = repeats_change_nothing
