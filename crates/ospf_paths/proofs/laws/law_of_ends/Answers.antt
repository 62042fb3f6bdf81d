use Rattle.ospf_paths.proofs.FailureLaws.{ends_are_alike}
use Rattle.ospf_paths.proofs.laws.law_of_ends.Goals as goal

pub returns : goal.returns
returns c = ends_are_alike
