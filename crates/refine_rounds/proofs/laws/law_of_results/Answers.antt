use Rattle.refine_rounds.proofs.ResultLemmas.{results_are_certain, results_contain, results_drop_nothing_held}
use Rattle.refine_rounds.proofs.laws.law_of_results.Goals as goal

pub returns-clause-containment : goal.returns-clause-containment
returns-clause-containment c = results_contain

pub returns-clause-certainty : goal.returns-clause-certainty
returns-clause-certainty c = results_are_certain

pub returns-clause-drops : goal.returns-clause-drops
returns-clause-drops c = results_drop_nothing_held
