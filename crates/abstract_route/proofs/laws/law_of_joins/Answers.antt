use Rattle.abstract_route.proofs.RowLemmas.{below_anti, joined_is_join}
use Rattle.abstract_route.proofs.HeightLemmas.{joined_is_row}
use Rattle.abstract_route.proofs.laws.law_of_joins.Goals as goal

pub returns-clause-antisymmetric : goal.returns-clause-antisymmetric
returns-clause-antisymmetric c = below_anti

pub returns-clause-join : goal.returns-clause-join
returns-clause-join c = joined_is_join

pub returns-clause-row : goal.returns-clause-row
returns-clause-row c = joined_is_row
