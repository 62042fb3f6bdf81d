use Rattle.case_walk.proofs.ReuseLemmas.{own_have_no_spare_link, representatives_are_own}
use Rattle.case_walk.proofs.laws.law_of_own_sets.Goals as goal

pub returns-clause-spare : goal.returns-clause-spare
returns-clause-spare c = own_have_no_spare_link

pub returns-clause-own : goal.returns-clause-own
returns-clause-own c = representatives_are_own
