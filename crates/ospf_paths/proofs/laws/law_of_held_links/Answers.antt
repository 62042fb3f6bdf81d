use Rattle.ospf_paths.proofs.FailureLaws.{held_links_come_back}
use Rattle.ospf_paths.proofs.laws.law_of_held_links.Goals as goal

pub returns : goal.returns
returns c = held_links_come_back
