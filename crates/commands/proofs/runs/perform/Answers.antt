use Rattle.std.proofs.Common.{refl}
use Rattle.commands.proofs.RunLemmas.{counted, none_ticked, performed}
use Rattle.commands.proofs.StopLemmas.{cause-calm}
use Rattle.commands.proofs.runs.perform.Goals as goal

pub returns-in-Check-clause-told : goal.returns-in-Check-clause-told
returns-in-Check-clause-told g c = λ content e. performed content c.args.command _ c.check.result c.in-Check.is (c.check.ensures.told content e)

pub returns-in-Check-clause-counted : goal.returns-in-Check-clause-counted
returns-in-Check-clause-counted g c = λ content e. counted content c.args.command _ _ _ c.check.result c.in-Check.is (c.check.ensures.counts content e)

pub returns-in-Stable-clause-told : goal.returns-in-Stable-clause-told
returns-in-Stable-clause-told g c = λ content e. performed content c.args.command _ c.stable.result c.in-Stable.is (c.stable.ensures.told content e)

pub returns-in-Stable-clause-counted : goal.returns-in-Stable-clause-counted
returns-in-Stable-clause-counted g c = λ content e. counted content c.args.command _ _ _ c.stable.result c.in-Stable.is (none_ticked _ _ c.stable.result)

pub returns-in-Gen-clause-told : goal.returns-in-Gen-clause-told
returns-in-Gen-clause-told g c = λ content e. performed content c.args.command _ c.generated.result c.in-Gen.is c.generated.ensures.comes

pub returns-in-Gen-clause-counted : goal.returns-in-Gen-clause-counted
returns-in-Gen-clause-counted g c = λ content e. counted content c.args.command _ _ _ c.generated.result c.in-Gen.is c.generated.ensures.counts

pub returns-in-Gen-clause-cause : goal.returns-in-Gen-clause-cause
returns-in-Gen-clause-cause g c = cause-calm _ _ c.generated.result c.generated.ensures.calm refl
