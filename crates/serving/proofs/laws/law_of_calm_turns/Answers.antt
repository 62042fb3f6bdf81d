use Rattle.serving.proofs.CalmLemmas.{answered_turns}
use Rattle.serving.proofs.laws.law_of_calm_turns.Goals as goal

pub returns : goal.returns
returns c = answered_turns
