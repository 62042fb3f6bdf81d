use Rattle.ospf_paths.proofs.LawLemmas.{least_walks_are_tight}
use Rattle.ospf_paths.proofs.laws.law_of_least_walks.Goals as goal

pub returns : goal.returns
returns c = least_walks_are_tight
