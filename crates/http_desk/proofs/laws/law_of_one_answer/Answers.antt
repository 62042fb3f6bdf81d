use Rattle.http_desk.proofs.OneLemmas.{one_answer}
use Rattle.http_desk.proofs.laws.law_of_one_answer.Goals as goal

pub returns : goal.returns
returns c = one_answer
