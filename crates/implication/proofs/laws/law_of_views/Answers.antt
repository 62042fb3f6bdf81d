use Rattle.implication.proofs.ViewLemmas.{hops_are, learning_is, steps_back_are, views_are_inside}
use Rattle.implication.proofs.laws.law_of_views.Goals as goal

pub returns-clause-hops : goal.returns-clause-hops
returns-clause-hops c = hops_are

pub returns-clause-backs : goal.returns-clause-backs
returns-clause-backs c = steps_back_are

pub returns-clause-learning : goal.returns-clause-learning
returns-clause-learning c = learning_is

pub returns-clause-inside : goal.returns-clause-inside
returns-clause-inside c = views_are_inside
