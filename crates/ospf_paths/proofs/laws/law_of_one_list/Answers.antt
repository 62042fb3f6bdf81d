use Rattle.ospf_paths.proofs.LawLemmas.{distances_are_one}
use Rattle.ospf_paths.proofs.laws.law_of_one_list.Goals as goal

pub returns : goal.returns
returns c = distances_are_one
