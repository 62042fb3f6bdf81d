use Rattle.desk_judge.proofs.RunLemmas.{judged_runs_hold}
use Rattle.desk_judge.proofs.laws.law_of_judged_runs.Goals as goal

pub returns : goal.returns
returns c = judged_runs_hold
