use Rattle.refine_rounds.proofs.StepLemmas.{beaten_is, last_round_drops_nothing, result_is_sound, step_drops_beaten}
use Rattle.refine_rounds.proofs.ResultLemmas.{first_quiet_round_is_last}
use Rattle.refine_rounds.proofs.laws.law_of_steps.Goals as goal

pub returns-clause-beaten : goal.returns-clause-beaten
returns-clause-beaten c = beaten_is

pub returns-clause-drops : goal.returns-clause-drops
returns-clause-drops c = step_drops_beaten

pub returns-clause-last : goal.returns-clause-last
returns-clause-last c = last_round_drops_nothing

pub returns-clause-result : goal.returns-clause-result
returns-clause-result c = result_is_sound

pub returns-clause-first : goal.returns-clause-first
returns-clause-first c = first_quiet_round_is_last
