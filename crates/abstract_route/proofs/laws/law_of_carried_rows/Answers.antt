use Rattle.std.proofs.Common.{refl}
use Rattle.abstract_route.proofs.FitLemmas.{carried_is_row, carried_up, carried_fits}
use Rattle.abstract_route.proofs.laws.law_of_carried_rows.Goals as goal

pub returns-clause-row : goal.returns-clause-row
returns-clause-row c = carried_is_row

pub returns-clause-up : goal.returns-clause-up
returns-clause-up c = carried_up

pub returns-clause-fits : goal.returns-clause-fits
returns-clause-fits c = carried_fits

pub returns-clause-exact : goal.returns-clause-exact
returns-clause-exact c = λ route. refl
