use Rattle.ospf_paths.proofs.ListLemmas.{distance_list_is}
use Rattle.ospf_paths.proofs.laws.law_of_distance_list.Goals as goal

pub returns : goal.returns
returns c = distance_list_is
