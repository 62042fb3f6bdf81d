use Rattle.ospf_paths.proofs.LawLemmas.{least_walks_go_on}
use Rattle.ospf_paths.proofs.laws.law_of_rests.Goals as goal

pub returns : goal.returns
returns c = least_walks_go_on
