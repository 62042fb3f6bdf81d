use Rattle.possible_fixpoint.proofs.HeldLemmas.{all_is_held_alive, possible_holds_labels, solutions_hold_labels}
use Rattle.possible_fixpoint.proofs.laws.law_of_held_routes.Goals as goal

pub returns-clause-all : goal.returns-clause-all
returns-clause-all c = all_is_held_alive

pub returns-clause-solutions : goal.returns-clause-solutions
returns-clause-solutions c = solutions_hold_labels

pub returns-clause-least : goal.returns-clause-least
returns-clause-least c = possible_holds_labels
