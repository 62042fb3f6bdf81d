use Rattle.refine_rounds.proofs.ReuseLemmas.{idle_links_may_fail}
use Rattle.refine_rounds.proofs.laws.law_of_reuse.Goals as goal

pub returns : goal.returns
returns c = idle_links_may_fail
