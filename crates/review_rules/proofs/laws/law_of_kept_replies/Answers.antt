use Rattle.review_rules.proofs.KeptLemmas.{kept_replies_stay}
use Rattle.review_rules.proofs.laws.law_of_kept_replies.Goals as goal

pub returns : goal.returns
returns c = kept_replies_stay
