use Rattle.ospf_paths.proofs.LawLemmas.{tight_arcs_approach}
use Rattle.ospf_paths.proofs.laws.law_of_approach.Goals as goal

pub returns : goal.returns
returns c = tight_arcs_approach
