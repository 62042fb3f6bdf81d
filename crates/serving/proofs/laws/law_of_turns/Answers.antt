use Rattle.serving.proofs.RepeatLemmas.{turns_are_steps}
use Rattle.serving.proofs.laws.law_of_turns.Goals as goal

pub returns : goal.returns
returns c = turns_are_steps
