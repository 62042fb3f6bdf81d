use Rattle.ospf_paths.proofs.FailureLaws.{failing_is_lacking}
use Rattle.ospf_paths.proofs.laws.law_of_failed_links.Goals as goal

pub returns : goal.returns
returns c = failing_is_lacking
