use Rattle.desk_judge.proofs.RunLemmas.{means_no_more}
use Rattle.desk_judge.proofs.laws.law_of_meanings.Goals as goal

pub returns : goal.returns
returns c = means_no_more
