use Rattle.review_rules.proofs.KeptLemmas.{accepted_are_kept}
use Rattle.review_rules.proofs.laws.law_of_kept_commands.Goals as goal

pub returns : goal.returns
returns c = accepted_are_kept
