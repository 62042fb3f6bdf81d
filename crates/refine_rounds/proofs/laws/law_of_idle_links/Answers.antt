use Rattle.refine_rounds.proofs.IdleLemmas.{idle_links_are}
use Rattle.refine_rounds.proofs.ReuseLemmas.{idle_links_bring_nothing}
use Rattle.refine_rounds.proofs.laws.law_of_idle_links.Goals as goal

pub returns-clause-links : goal.returns-clause-links
returns-clause-links c = idle_links_are

pub returns-clause-nothing : goal.returns-clause-nothing
returns-clause-nothing c = idle_links_bring_nothing
