use Rattle.ospf_paths.proofs.FailureLaws.{failures_lengthen}
use Rattle.ospf_paths.proofs.laws.law_of_more_failures.Goals as goal

pub returns : goal.returns
returns c = failures_lengthen
