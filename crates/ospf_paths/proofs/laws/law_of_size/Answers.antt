use Rattle.ospf_paths.proofs.LawLemmas.{distances_are_small}
use Rattle.ospf_paths.proofs.laws.law_of_size.Goals as goal

pub returns : goal.returns
returns c = distances_are_small
