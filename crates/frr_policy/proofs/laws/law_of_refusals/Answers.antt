use Rattle.frr_policy.proofs.RefusalLemmas.{lists_of_rest, is_refused_map_line}
use Rattle.frr_policy.proofs.laws.law_of_refusals.Goals as goal

pub returns-clause-lists : goal.returns-clause-lists
returns-clause-lists c = lists_of_rest

pub returns-clause-maps : goal.returns-clause-maps
returns-clause-maps c = is_refused_map_line
