use Rattle.abstract_route.proofs.HeightLemmas.{rank_up, rank_even, rank_small}
use Rattle.abstract_route.proofs.laws.law_of_ranks.Goals as goal

pub returns-clause-rises : goal.returns-clause-rises
returns-clause-rises c = rank_up

pub returns-clause-strict : goal.returns-clause-strict
returns-clause-strict c = rank_even

pub returns-clause-bounded : goal.returns-clause-bounded
returns-clause-bounded c = rank_small
