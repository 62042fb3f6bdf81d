use Rattle.implication.proofs.AlikeLemmas.{idle_links_keep_answers}
use Rattle.implication.proofs.laws.law_of_idle_links.Goals as goal

pub returns : goal.returns
returns c = idle_links_keep_answers
