use Rattle.judging.specs.Inputs.{limited}
use Rattle.review_rules.specs.declared.requests.JudgeAnswer.TheVariants.{Judged}
use Rattle.desk_judge.specs.Judged.{settled}
use Rattle.desk_judge.proofs.RunLemmas.{judged_meant, limit_is, limit_means, means_same}
use Rattle.desk_judge.proofs.answers.settled.Goals as goal

pub returns-in-Ok-clause-value : goal.returns-in-Ok-clause-value
returns-in-Ok-clause-value g c =
    let inputs = c.args.inputs.now in
    let judgement = c.in-Ok.judgement in
    means_same (Judged judgement.missing judgement.report) (settled (limited inputs)) c.found.result
    (judged_meant inputs judgement c.valid.ensures c.valid-2.ensures c.in-Ok.ensures.judged.0 c.in-Ok.ensures.judged.1) c.found.ensures.value

pub returns-clause-value : goal.returns-clause-value
returns-clause-value g c = rw c.not_judged.ensures (limit_means c.args.inputs.now c.in-Err.why c.in-Err.ensures.judged)

pub returns-clause-kind : goal.returns-clause-kind
returns-clause-kind g c = λ m n. rw c.not_judged.ensures (limit_is m n c.args.inputs.now c.in-Err.why c.in-Err.ensures.judged)
