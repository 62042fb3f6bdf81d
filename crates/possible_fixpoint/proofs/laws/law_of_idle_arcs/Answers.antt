use Rattle.possible_fixpoint.proofs.IdleLemmas.{idle_arcs_add_nothing, idle_links_keep_possible}
use Rattle.possible_fixpoint.proofs.laws.law_of_idle_arcs.Goals as goal

pub returns-clause-arcs : goal.returns-clause-arcs
returns-clause-arcs c = idle_arcs_add_nothing

pub returns-clause-links : goal.returns-clause-links
returns-clause-links c = idle_links_keep_possible
