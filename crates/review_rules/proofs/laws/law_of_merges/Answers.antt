use Rattle.review_rules.proofs.AcceptLemmas.{merges_are_sound}
use Rattle.review_rules.proofs.laws.law_of_merges.Goals as goal

pub returns : goal.returns
returns c = merges_are_sound
