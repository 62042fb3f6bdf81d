use Rattle.abstract_maps.proofs.LocalLemmas.{local_is_exact, local_is_row, local_is_short}
use Rattle.abstract_maps.proofs.laws.law_of_local_rows.Goals as goal

pub returns-clause-exact : goal.returns-clause-exact
returns-clause-exact c = local_is_exact

pub returns-clause-row : goal.returns-clause-row
returns-clause-row c = local_is_row

pub returns-clause-short : goal.returns-clause-short
returns-clause-short c = local_is_short
