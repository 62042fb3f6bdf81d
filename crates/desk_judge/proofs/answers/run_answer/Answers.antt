use Rattle.std.proofs.Common.{length}
use Rattle.judging.specs.Inputs.{limited}
use Rattle.desk_judge.specs.Judged.{run_answer, settled}
use Rattle.desk_judge.proofs.RunLemmas.{means_same, refusal_is, refusal_means, run_settled}
use Rattle.desk_judge.proofs.answers.run_answer.Goals as goal

pub returns-in-Ok-clause-value : goal.returns-in-Ok-clause-value
returns-in-Ok-clause-value g c =
    let inputs = c.in-Ok.inputs in
    means_same (settled (limited inputs)) (run_answer c.args.base.now c.args.new.now c.args.book.now) c.settled.result
    (run_settled c.args.base.now c.args.new.now c.args.book.now inputs c.in-Ok.ensures.judges) c.settled.ensures.value

pub returns-in-Ok-clause-kind : goal.returns-in-Ok-clause-kind
returns-in-Ok-clause-kind g c = c.settled.ensures.kind (length c.args.base.now) (length c.args.new.now)

pub returns-in-Err-clause-value : goal.returns-in-Err-clause-value
returns-in-Err-clause-value g c = rw c.not_judged.ensures (refusal_means c.args.base.now c.args.new.now c.args.book.now c.in-Err.why c.in-Err.ensures.judges)

pub returns-in-Err-clause-kind : goal.returns-in-Err-clause-kind
returns-in-Err-clause-kind g c = rw c.not_judged.ensures (refusal_is c.args.base.now c.args.new.now c.args.book.now c.in-Err.why c.in-Err.ensures.judges)
