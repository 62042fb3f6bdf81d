use Rattle.std.proofs.Common.{◌∙◌}
use Rattle.commands.proofs.StopLemmas.{cause-calm}
use Rattle.commands.proofs.check.check_inputs.Goals as goal

pub returns-clause-cause : goal.returns-clause-cause
returns-clause-cause g c =
    cause-calm _ _ c.judged.result c.judged.ensures.calm (c.in_ok-text.ensures.cause ∙ (c.in_ok-new.ensures.cause ∙ c.in_ok-base.ensures.cause))
