use Rattle.abstract_route.proofs.FitLemmas.{bottom_fits_none}
use Rattle.abstract_route.proofs.HeightLemmas.{bottom_below, bottom_is_row}
use Rattle.abstract_route.proofs.laws.law_of_bottom.Goals as goal

pub returns-clause-row : goal.returns-clause-row
returns-clause-row c = bottom_is_row

pub returns-clause-below : goal.returns-clause-below
returns-clause-below c = bottom_below

pub returns-clause-none : goal.returns-clause-none
returns-clause-none c = bottom_fits_none
