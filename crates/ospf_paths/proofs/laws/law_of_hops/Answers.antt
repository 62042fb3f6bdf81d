use Rattle.ospf_paths.proofs.LawLemmas.{far_routers_hop}
use Rattle.ospf_paths.proofs.laws.law_of_hops.Goals as goal

pub returns : goal.returns
returns c = far_routers_hop
