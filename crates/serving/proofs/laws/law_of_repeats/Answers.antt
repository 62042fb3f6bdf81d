use Rattle.serving.proofs.RepeatLemmas.{repeats_act_once, repeats_are_answered}
use Rattle.serving.proofs.laws.law_of_repeats.Goals as goal

pub returns-clause-once : goal.returns-clause-once
returns-clause-once c = repeats_act_once

pub returns-clause-answered : goal.returns-clause-answered
returns-clause-answered c = repeats_are_answered
