use Rattle.abstract_route.proofs.FitLemmas.{exact_is_least, exact_is_row}
use Rattle.abstract_route.proofs.OneRouteLemmas.{exact_fits_one}
use Rattle.abstract_route.proofs.laws.law_of_exact_rows.Goals as goal

pub returns-clause-least : goal.returns-clause-least
returns-clause-least c = exact_is_least

pub returns-clause-row : goal.returns-clause-row
returns-clause-row c = exact_is_row

pub returns-clause-one : goal.returns-clause-one
returns-clause-one c = exact_fits_one
