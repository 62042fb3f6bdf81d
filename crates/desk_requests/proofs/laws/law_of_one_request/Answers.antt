use Rattle.desk_requests.proofs.OneLemmas.{asks_one}
use Rattle.desk_requests.proofs.laws.law_of_one_request.Goals as goal

pub returns : goal.returns
returns c = asks_one
