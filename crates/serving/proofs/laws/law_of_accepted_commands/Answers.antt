use Rattle.serving.proofs.CalmLemmas.{accepted_answered}
use Rattle.serving.proofs.laws.law_of_accepted_commands.Goals as goal

pub returns : goal.returns
returns c = accepted_answered
